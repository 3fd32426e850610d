use Rattle.std.proofs.Common.{◌≡◌, ◌∙◌, sym, refl, subst}
use Rattle.stk_terms.specs.Fitting.{arity}
use Rattle.stk_rewrite.proofs.Standing as on
use Rattle.stk_rewrite.proofs.choosing.choose.Goals as goal

pub one-requires-clause-arity : goal.one-requires-clause-arity
one-requires-clause-arity c = subst (λ o. arity o ≡ 1) (sym c.op_of-op.ensures) (on.arity_at c.args.terms.now c.requires.sound c.args.id.0 c.requires.exists 1 (sym c.count_of-count.ensures ∙ c.if-count-eq1.true))

pub one-requires-clause-fits : goal.one-requires-clause-fits
one-requires-clause-fits c = on.fits_one c.args.terms.now c.requires.sound c.args.id.0 c.requires.exists c.op_of-op.result (sym c.op_of-op.ensures) c.argument-a.result (subst (λ o. arity o ≡ 1) (sym c.op_of-op.ensures) (on.arity_at c.args.terms.now c.requires.sound c.args.id.0 c.requires.exists 1 (sym c.count_of-count.ensures ∙ c.if-count-eq1.true))) c.argument-a.ensures.simplifies

pub returns-then-count-eq1-clause-stands : goal.returns-then-count-eq1-clause-stands
returns-then-count-eq1-clause-stands c = on.stands_one c.args.terms.now c.requires.sound c.args.id.0 c.requires.exists c.op_of-op.result (sym c.op_of-op.ensures) c.argument-a.result c.one.result (subst (λ o. arity o ≡ 1) (sym c.op_of-op.ensures) (on.arity_at c.args.terms.now c.requires.sound c.args.id.0 c.requires.exists 1 (sym c.count_of-count.ensures ∙ c.if-count-eq1.true))) c.argument-a.ensures.simplifies c.one.ensures

pub pair-requires-clause-arity : goal.pair-requires-clause-arity
pair-requires-clause-arity c = subst (λ o. arity o ≡ 2) (sym c.op_of-op.ensures) (on.arity_at c.args.terms.now c.requires.sound c.args.id.0 c.requires.exists 2 (sym c.count_of-count.ensures ∙ c.if-count-eq2.true))

pub pair-requires-clause-fits : goal.pair-requires-clause-fits
pair-requires-clause-fits c = on.fits_two c.args.terms.now c.requires.sound c.args.id.0 c.requires.exists c.op_of-op.result (sym c.op_of-op.ensures) c.argument-a-then-count-eq2.result c.argument-b.result (subst (λ o. arity o ≡ 2) (sym c.op_of-op.ensures) (on.arity_at c.args.terms.now c.requires.sound c.args.id.0 c.requires.exists 2 (sym c.count_of-count.ensures ∙ c.if-count-eq2.true))) c.argument-a-then-count-eq2.ensures.simplifies c.argument-b.ensures.simplifies

pub returns-then-count-eq2-clause-stands : goal.returns-then-count-eq2-clause-stands
returns-then-count-eq2-clause-stands c = on.stands_two c.args.terms.now c.requires.sound c.args.id.0 c.requires.exists c.op_of-op.result (sym c.op_of-op.ensures) c.argument-a-then-count-eq2.result c.argument-b.result c.pair.result (subst (λ o. arity o ≡ 2) (sym c.op_of-op.ensures) (on.arity_at c.args.terms.now c.requires.sound c.args.id.0 c.requires.exists 2 (sym c.count_of-count.ensures ∙ c.if-count-eq2.true))) c.argument-a-then-count-eq2.ensures.simplifies c.argument-b.ensures.simplifies c.pair.ensures

pub choice-requires-clause-one : goal.choice-requires-clause-one
choice-requires-clause-one c = on.one_at c.args.terms.now c.requires.sound c.args.id.0 c.requires.exists (sym c.count_of-count.ensures ∙ c.if-count-eq3.true) c.argument-t.result c.argument-a-then-count-eq3.result c.argument-b-then-count-eq3.result c.argument-t.ensures.simplifies c.argument-a-then-count-eq3.ensures.simplifies c.argument-b-then-count-eq3.ensures.simplifies

pub choice-requires-clause-pair : goal.choice-requires-clause-pair
choice-requires-clause-pair c = on.chosen_pair c.args.terms.now c.requires.sound c.args.id.0 c.requires.exists (sym c.count_of-count.ensures ∙ c.if-count-eq3.true) c.argument-t.result c.argument-a-then-count-eq3.result c.argument-b-then-count-eq3.result c.argument-t.ensures.simplifies c.argument-a-then-count-eq3.ensures.simplifies c.argument-b-then-count-eq3.ensures.simplifies

pub returns-then-count-eq3-clause-stands : goal.returns-then-count-eq3-clause-stands
returns-then-count-eq3-clause-stands c = on.stands_chosen c.args.terms.now c.requires.sound c.args.id.0 c.requires.exists (sym c.count_of-count.ensures ∙ c.if-count-eq3.true) c.argument-t.result c.argument-a-then-count-eq3.result c.argument-b-then-count-eq3.result c.argument-t.ensures.simplifies c.argument-a-then-count-eq3.ensures.simplifies c.argument-b-then-count-eq3.ensures.simplifies c.choice.result c.choice.ensures

pub returns-else-count-eq3-clause-stands : goal.returns-else-count-eq3-clause-stands
returns-else-count-eq3-clause-stands c = on.stands_itself c.args.terms.now c.requires.sound c.args.id.0 c.requires.exists c.args.id refl (λ e. c.if-count-eq1.false (c.count_of-count.ensures ∙ e)) (λ e. c.if-count-eq2.false (c.count_of-count.ensures ∙ e)) (λ e. c.if-count-eq3.false (c.count_of-count.ensures ∙ e))

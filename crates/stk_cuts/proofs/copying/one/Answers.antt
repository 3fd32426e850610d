use Rattle.std.proofs.Common.{◌≡◌, sym, subst}
use Rattle.stk_terms.specs.Fitting.{arity}
use Rattle.stk_terms.proofs.Reading.{there}
use Rattle.stk_cuts.proofs.Copied as on
use Rattle.stk_cuts.proofs.copying.one.Goals as goal

pub one-requires-clause-exists : goal.one-requires-clause-exists
one-requires-clause-exists c = (c.in-Some.ensures c.args.out.now c.args.of.now.cut.now c.requires.copies).exists_

pub one-requires-clause-arity : goal.one-requires-clause-arity
one-requires-clause-arity c = (subst (λ o. arity o ≡ 1) (sym (c.op-op.ensures _ (there c.args.of.now.terms.now c.count-count.ensures.sound c.args.id.0 c.requires.exists))) (on.arity_at c.args.of.now.terms.now c.args.of.now.cut.now c.count-count.ensures.sound c.args.out.now c.requires.inputs c.args.id.0 c.requires.exists 1 c.requires.one))

pub one-requires-clause-fits : goal.one-requires-clause-fits
one-requires-clause-fits c = on.fits_one c.args.of.now.terms.now c.args.of.now.cut.now c.count-count.ensures.sound c.args.out.now c.requires.inputs c.args.id.0 c.requires.exists c.op-op.result (sym (c.op-op.ensures _ (there c.args.of.now.terms.now c.count-count.ensures.sound c.args.id.0 c.requires.exists))) c.in-Some.a.0 (subst (λ o. arity o ≡ 1) (sym (c.op-op.ensures _ (there c.args.of.now.terms.now c.count-count.ensures.sound c.args.id.0 c.requires.exists))) (on.arity_at c.args.of.now.terms.now c.args.of.now.cut.now c.count-count.ensures.sound c.args.out.now c.requires.inputs c.args.id.0 c.requires.exists 1 c.requires.one)) (c.in-Some.ensures c.args.out.now c.args.of.now.cut.now c.requires.copies)

pub returns-in_ok-v-in-Some-clause-copies : goal.returns-in_ok-v-in-Some-clause-copies
returns-in_ok-v-in-Some-clause-copies c = on.copy_one c.args.of.now.terms.now c.args.of.now.cut.now c.count-count.ensures.sound c.args.out.now c.requires.inputs c.args.id.0 c.requires.exists c.op-op.result (sym (c.op-op.ensures _ (there c.args.of.now.terms.now c.count-count.ensures.sound c.args.id.0 c.requires.exists))) c.one.new.self c.in-Some.a c.in_ok-v-in-Some.v.0 (subst (λ o. arity o ≡ 1) (sym (c.op-op.ensures _ (there c.args.of.now.terms.now c.count-count.ensures.sound c.args.id.0 c.requires.exists))) (on.arity_at c.args.of.now.terms.now c.args.of.now.cut.now c.count-count.ensures.sound c.args.out.now c.requires.inputs c.args.id.0 c.requires.exists 1 c.requires.one)) (c.in-Some.ensures c.args.out.now c.args.of.now.cut.now c.requires.copies) c.in_ok-v-in-Some.ensures.built

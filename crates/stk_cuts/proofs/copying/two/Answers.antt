use Rattle.std.proofs.Common.{◌≡◌, sym, subst}
use Rattle.stk_terms.specs.Fitting.{arity}
use Rattle.stk_terms.proofs.Reading.{there}
use Rattle.stk_cuts.proofs.Copied as on
use Rattle.stk_cuts.proofs.copying.two.Goals as goal

pub two-requires-clause-first : goal.two-requires-clause-first
two-requires-clause-first c = (c.in-Some.ensures c.args.out.now c.args.of.now.cut.now c.requires.copies).exists_

pub two-requires-clause-second : goal.two-requires-clause-second
two-requires-clause-second c = (c.in-Some-argument.ensures c.args.out.now c.args.of.now.cut.now c.requires.copies).exists_

pub two-requires-clause-arity : goal.two-requires-clause-arity
two-requires-clause-arity c = (subst (λ o. arity o ≡ 2) (sym (c.op-op.ensures _ (there c.args.of.now.terms.now c.count-count.ensures.sound c.args.id.0 c.requires.exists))) (on.arity_at c.args.of.now.terms.now c.args.of.now.cut.now c.count-count.ensures.sound c.args.out.now c.requires.inputs c.args.id.0 c.requires.exists 2 c.requires.two))

pub two-requires-clause-fits : goal.two-requires-clause-fits
two-requires-clause-fits c = on.fits_two c.args.of.now.terms.now c.args.of.now.cut.now c.count-count.ensures.sound c.args.out.now c.requires.inputs c.args.id.0 c.requires.exists c.op-op.result (sym (c.op-op.ensures _ (there c.args.of.now.terms.now c.count-count.ensures.sound c.args.id.0 c.requires.exists))) c.in-Some.a.0 c.in-Some-argument.b.0 (subst (λ o. arity o ≡ 2) (sym (c.op-op.ensures _ (there c.args.of.now.terms.now c.count-count.ensures.sound c.args.id.0 c.requires.exists))) (on.arity_at c.args.of.now.terms.now c.args.of.now.cut.now c.count-count.ensures.sound c.args.out.now c.requires.inputs c.args.id.0 c.requires.exists 2 c.requires.two)) (c.in-Some.ensures c.args.out.now c.args.of.now.cut.now c.requires.copies) (c.in-Some-argument.ensures c.args.out.now c.args.of.now.cut.now c.requires.copies)

pub returns-clause-copies : goal.returns-clause-copies
returns-clause-copies c = on.copy_two c.args.of.now.terms.now c.args.of.now.cut.now c.count-count.ensures.sound c.args.out.now c.requires.inputs c.args.id.0 c.requires.exists c.op-op.result (sym (c.op-op.ensures _ (there c.args.of.now.terms.now c.count-count.ensures.sound c.args.id.0 c.requires.exists))) c.two.new.self c.in-Some.a c.in-Some-argument.b c.in_ok-v.v.0 (subst (λ o. arity o ≡ 2) (sym (c.op-op.ensures _ (there c.args.of.now.terms.now c.count-count.ensures.sound c.args.id.0 c.requires.exists))) (on.arity_at c.args.of.now.terms.now c.args.of.now.cut.now c.count-count.ensures.sound c.args.out.now c.requires.inputs c.args.id.0 c.requires.exists 2 c.requires.two)) (c.in-Some.ensures c.args.out.now c.args.of.now.cut.now c.requires.copies) (c.in-Some-argument.ensures c.args.out.now c.args.of.now.cut.now c.requires.copies) c.in_ok-v.ensures.built

use Rattle.std.proofs.Common.{length, sym, ap, subst, ◌∙◌, arith, refl}
use Rattle.stk_rewrite.specs.Readings.{IsNegation}
use Rattle.stk_rewrite.proofs.Tests.{other_not}
use Rattle.stk_terms.specs.declared.term.TermOp.TheVariants.{Not}
use Rattle.stk_terms.proofs.Reading.{there, one_arg}
use Rattle.stk_rewrite.proofs.Parted.{negation_is, read_arg}
use Rattle.stk_rewrite.proofs.reading.negated.Goals as goal

pub bounds-args-0 : goal.bounds-args-0
bounds-args-0 c =
    let t = there c.args.terms.now c.requires.sound c.args.a.0 c.requires.normal.exists_ in
    let p = one_arg c.args.terms.now c.requires.sound c.args.a.0 c.requires.normal.exists_ Not (sym (c.op.ensures _ t) ∙ c.in-Not.is) refl in
    omega (arith, p.many, ap length (c.args-args.ensures _ t))

pub returns-in-Not : goal.returns-in-Not
returns-in-Not c =
    let t = there c.args.terms.now c.requires.sound c.args.a.0 c.requires.normal.exists_ in
    let o = sym (c.op.ensures _ t) ∙ c.in-Not.is in
    let p = one_arg c.args.terms.now c.requires.sound c.args.a.0 c.requires.normal.exists_ Not o refl in
    let e0 = read_arg c.args.terms.now c.requires.sound c.args.a.0 0 c.args-args.result.now _ (c.args-args.ensures _ t) (omega (arith, p.many, ap length (c.args-args.ensures _ t))) in
    subst (λ k. IsNegation c.args.terms.now c.args.a.0 k) (sym e0) (negation_is c.args.terms.now c.requires.sound c.args.a.0 c.requires.normal o)

pub returns-in_default : goal.returns-in_default
returns-in_default c =
    let e = c.op.ensures _ (there c.args.terms.now c.requires.sound c.args.a.0 c.requires.normal.exists_) in
    other_not _ (λ f. c.in_default.not-Not (e ∙ f))

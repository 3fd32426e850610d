use Rattle.std.proofs.Common.{length, sym, ap, subst, ◌∙◌, arith, refl}
use Rattle.stk_rewrite.specs.Readings.{IsCut}
use Rattle.stk_rewrite.proofs.Tests.{other_extract}
use Rattle.stk_terms.specs.declared.term.TermOp.TheVariants.{Extract}
use Rattle.stk_terms.proofs.Reading.{there, one_arg}
use Rattle.stk_rewrite.proofs.Parted.{cut_is, read_arg}
use Rattle.stk_rewrite.proofs.reading.cut.Goals as goal

pub bounds-args-0 : goal.bounds-args-0
bounds-args-0 c =
    let t = there c.args.terms.now c.requires.sound c.args.a.0 c.requires.normal.exists_ in
    let p = one_arg c.args.terms.now c.requires.sound c.args.a.0 c.requires.normal.exists_ (Extract c.in-Extract.low c.in-Extract.field-1) (sym (c.op.ensures _ t) ∙ c.in-Extract.is) refl in
    omega (arith, p.many, ap length (c.args-args.ensures _ t))

pub returns-in-Extract : goal.returns-in-Extract
returns-in-Extract c =
    let t = there c.args.terms.now c.requires.sound c.args.a.0 c.requires.normal.exists_ in
    let o = sym (c.op.ensures _ t) ∙ c.in-Extract.is in
    let p = one_arg c.args.terms.now c.requires.sound c.args.a.0 c.requires.normal.exists_ (Extract c.in-Extract.low c.in-Extract.field-1) o refl in
    let e0 = read_arg c.args.terms.now c.requires.sound c.args.a.0 0 c.args-args.result.now _ (c.args-args.ensures _ t) (omega (arith, p.many, ap length (c.args-args.ensures _ t))) in
    subst (λ k. IsCut c.args.terms.now c.args.a.0 c.in-Extract.low k) (sym e0) (cut_is c.args.terms.now c.requires.sound c.args.a.0 c.requires.normal c.in-Extract.low c.in-Extract.field-1 o)

pub returns-in_default : goal.returns-in_default
returns-in_default c =
    let e = c.op.ensures _ (there c.args.terms.now c.requires.sound c.args.a.0 c.requires.normal.exists_) in
    other_extract _ (λ m w f. c.in_default.not-Extract m w (e ∙ f))

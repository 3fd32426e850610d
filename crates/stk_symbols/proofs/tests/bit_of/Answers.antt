use Rattle.std.proofs.Common.{◌≡◌, ◌<◌, length, sym, ap, subst, ◌∙◌, arith, refl}
use Rattle.stk_terms.specs.declared.term.TermOp.TheVariants.{ZeroExt}
use Rattle.stk_terms.specs.Values.{width_at}
use Rattle.stk_terms.proofs.Reading.{there, one_arg}
use Rattle.stk_rewrite.proofs.Parted.{read_arg}
use Rattle.stk_symbols.specs.Valued.{IsBitOf}
use Rattle.stk_symbols.proofs.Bits.{extended_bit}
use Rattle.stk_symbols.proofs.tests.bit_of.Goals as goal

pub bounds-args-0 : goal.bounds-args-0
bounds-args-0 c =
    let t = there c.args.terms.now c.requires.sound c.args.value.0 c.requires.exists in
    let p = one_arg c.args.terms.now c.requires.sound c.args.value.0 c.requires.exists (ZeroExt c.in-ZeroExt.field-0) (sym (c.op.ensures _ t) ∙ c.in-ZeroExt.is) refl in
    omega (arith, p.many, ap length (c.args-args.ensures _ t))

pub width-requires : goal.width-requires
width-requires c =
    let t = there c.args.terms.now c.requires.sound c.args.value.0 c.requires.exists in
    let p = one_arg c.args.terms.now c.requires.sound c.args.value.0 c.requires.exists (ZeroExt c.in-ZeroExt.field-0) (sym (c.op.ensures _ t) ∙ c.in-ZeroExt.is) refl in
    let e0 = read_arg c.args.terms.now c.requires.sound c.args.value.0 0 c.args-args.result.now _ (c.args-args.ensures _ t) (omega (arith, p.many, ap length (c.args-args.ensures _ t))) in
    subst (λ k. k < length c.args.terms.now.terms) (sym e0) (omega (arith, p.first, c.requires.exists))

pub returns-then-width-eq1 : goal.returns-then-width-eq1
returns-then-width-eq1 c =
    let t = there c.args.terms.now c.requires.sound c.args.value.0 c.requires.exists in
    let o = sym (c.op.ensures _ t) ∙ c.in-ZeroExt.is in
    let p = one_arg c.args.terms.now c.requires.sound c.args.value.0 c.requires.exists (ZeroExt c.in-ZeroExt.field-0) o refl in
    let e0 = read_arg c.args.terms.now c.requires.sound c.args.value.0 0 c.args-args.result.now _ (c.args-args.ensures _ t) (omega (arith, p.many, ap length (c.args-args.ensures _ t))) in
    subst (λ k. IsBitOf c.args.terms.now c.args.value.0 k) (sym e0) (extended_bit c.args.terms.now c.requires.sound c.args.value.0 c.in-ZeroExt.field-0 c.requires.exists o (subst (λ k. width_at c.args.terms.now k ≡ 1) e0 (sym c.width.ensures.is ∙ c.if-width-eq1.true)))

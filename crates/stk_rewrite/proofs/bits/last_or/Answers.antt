use Rattle.std.proofs.Common.{◌≡◌, ◌-◌, ◌^◌, refl, sym, subst, ◌∙◌, arith, bit_or}
use Rattle.std.specs.Int.Bits.{or_zero_r}
use Rattle.stk_terms.specs.declared.term.TermOp.TheVariants.{Or}
use Rattle.stk_terms.specs.Values.{width_at, number_at}
use Rattle.stk_terms.proofs.Reading.{below}
use Rattle.stk_rewrite.specs.declared.right.Right.TheVariants.{Last}
use Rattle.stk_rewrite.specs.Rights.{IsWritten}
use Rattle.stk_rewrite.proofs.Leaves.{old_for, number_for}
use Rattle.stk_rewrite.proofs.Values as v
use Rattle.stk_rewrite.proofs.bits.last_or.Goals as goal

pub returns-then-n-eq0 : goal.returns-then-n-eq0
returns-then-n-eq0 c = let s = c.args.terms.now in let a = c.args.a in
    old_for s (Last Or a c.args.width c.args.n) a c.requires.beside.part.normal refl
    (λ r h. sym ((λ j. bit_or (number_at s r a.0) (c.if-n-eq0.true j)) ∙ or_zero_r (number_at s r a.0)))
    (λ d l k. k)

pub returns-then-n-ones : goal.returns-then-n-ones
returns-then-n-ones c = let s = c.args.terms.now in let a = c.args.a in
    let e : c.args.n ≡ 2 ^ width_at s a.0 - 1 = c.if-n-ones.true ∙ (c.apply-ones.ensures ∙ (λ j. 2 ^ sym c.requires.beside.alike j - 1 - 0) ∙ omega arith) in
    number_for s (Last Or a c.args.width c.args.n) c.args.width c.apply-ones.result
    (subst (λ m. IsWritten c.args.width m) c.if-n-ones.true c.requires.beside.written) (sym c.requires.beside.alike)
    (λ r h. (sym c.if-n-ones.true ∙ e) ∙ sym ((λ j. bit_or (number_at s r a.0) (e j)) ∙ v.or_ones (number_at s r a.0) (width_at s a.0) (below s c.requires.sound r a.0 h)))

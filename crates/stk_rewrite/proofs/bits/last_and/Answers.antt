use Rattle.std.proofs.Common.{◌≡◌, ◌-◌, ◌^◌, refl, sym, ◌∙◌, arith, bit_and}
use Rattle.stk_terms.specs.declared.term.TermOp.TheVariants.{And}
use Rattle.stk_terms.specs.Values.{width_at, number_at}
use Rattle.stk_rewrite.specs.declared.right.Right.TheVariants.{Last}
use Rattle.stk_rewrite.proofs.Leaves.{old_for}
use Rattle.stk_terms.proofs.Reading.{below}
use Rattle.stk_rewrite.proofs.Values as v
use Rattle.stk_rewrite.proofs.bits.last_and.Goals as goal

pub returns-then-n-ones : goal.returns-then-n-ones
returns-then-n-ones c = let s = c.args.terms.now in let a = c.args.a in
    let e : c.args.n ≡ 2 ^ width_at s a.0 - 1 = c.if-n-ones.true ∙ (c.apply-ones.ensures ∙ (λ j. 2 ^ sym c.requires.beside.alike j - 1 - 0) ∙ omega arith) in
    old_for s (Last And a c.args.width c.args.n) a c.requires.beside.part.normal refl
    (λ r h. sym ((λ j. bit_and (number_at s r a.0) (e j)) ∙ v.and_ones (number_at s r a.0) (width_at s a.0) (below s c.requires.sound r a.0 h)))
    (λ d l k. k)

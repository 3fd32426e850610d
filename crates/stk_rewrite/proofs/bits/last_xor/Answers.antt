use Rattle.std.proofs.Common.{◌≡◌, ◌-◌, ◌^◌, refl, sym, ◌∙◌, arith, bit_xor}
use Rattle.stk_terms.specs.declared.term.TermOp.TheVariants.{Not, Xor}
use Rattle.stk_terms.specs.Values.{width_at, number_at}
use Rattle.stk_terms.proofs.Reading.{below}
use Rattle.stk_rewrite.specs.declared.right.Right.TheVariants.{One, Last}
use Rattle.stk_rewrite.proofs.Leaves.{via}
use Rattle.stk_rewrite.proofs.Values as v
use Rattle.stk_rewrite.proofs.bits.last_xor.Goals as goal

pub returns-then-n-ones : goal.returns-then-n-ones
returns-then-n-ones c = let s = c.args.terms.now in let a = c.args.a in
    let e : c.args.n ≡ 2 ^ width_at s a.0 - 1 = c.if-n-ones.true ∙ (c.apply-ones.ensures ∙ (λ j. 2 ^ sym c.requires.beside.alike j - 1 - 0) ∙ omega arith) in
    via s (One Not a) (Last Xor a c.args.width c.args.n) c.inverted.result c.inverted.ensures refl
    (λ r h. sym ((λ j. bit_xor (number_at s r a.0) (e j)) ∙ v.xor_ones (width_at s a.0) (number_at s r a.0) (below s c.requires.sound r a.0 h)))
    (omega arith)
    (λ d l k. k)

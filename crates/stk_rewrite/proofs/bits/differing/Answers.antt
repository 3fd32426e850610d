use Rattle.std.proofs.Common.{◌≤◌, ◌<◌, ◌^◌, sym, ◌∙◌, subst, bit_xor}
use Rattle.std.specs.Int.Bits.{xor_self}
use Rattle.std.proofs.lemmas.Nat.{pow_pos}
use Rattle.stk_terms.specs.declared.term.TermOp.TheVariants.{Xor}
use Rattle.stk_terms.specs.Values.{width_at, number_at}
use Rattle.stk_terms.proofs.Reading.{most, least}
use Rattle.stk_rewrite.specs.declared.right.Right.TheVariants.{Two}
use Rattle.stk_rewrite.proofs.Leaves.{number_for}
use Rattle.stk_rewrite.proofs.bits.differing.Goals as goal

pub returns-then-a-b : goal.returns-then-a-b
returns-then-a-b c = let s = c.args.terms.now in let a = c.args.a in let b = c.args.b in let e = c.width.ensures.is in
    number_for s (Two Xor a b) c.width.result 0
    (subst (λ w. (1 ≤ w) × (w ≤ 128) × (0 < 2 ^ w)) (sym e) (least s c.requires.sound a.0 c.requires.pair.first.exists_, most s c.requires.sound a.0, pow_pos (width_at s a.0))) e
    (λ r h. sym ((λ j. bit_xor (number_at s r a.0) (number_at s r (sym c.if-a-b.true j))) ∙ xor_self (number_at s r a.0)))

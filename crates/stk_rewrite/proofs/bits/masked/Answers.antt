use Rattle.std.proofs.Common.{◌≤◌, ◌<◌, ◌-◌, ◌^◌, sym, ◌∙◌, subst, bit_and}
use Rattle.std.proofs.lemmas.Nat.{pow_pos}
use Rattle.stk_terms.specs.declared.term.TermOp.TheVariants.{And}
use Rattle.stk_terms.specs.Values.{width_at, number_at}
use Rattle.stk_rewrite.specs.declared.right.Right.TheVariants.{Two}
use Rattle.stk_rewrite.proofs.Leaves.{number_for}
use Rattle.stk_terms.proofs.Reading.{below, most, least}
use Rattle.stk_rewrite.proofs.Values as v
use Rattle.stk_rewrite.proofs.bits.masked.Goals as goal

pub returns-then-x-a : goal.returns-then-x-a
returns-then-x-a c = let s = c.args.terms.now in let a = c.args.a in let b = c.args.b in let p = c.in-Some.ensures in let e = c.width.ensures.is in
    number_for s (Two And a b) c.width.result 0
    (subst (λ w. (1 ≤ w) × (w ≤ 128) × (0 < 2 ^ w)) (sym e) (least s c.requires.sound a.0 c.requires.first.normal.exists_, most s c.requires.sound a.0, pow_pos (width_at s a.0))) e
    (λ r h. sym ((λ j. bit_and (number_at s r a.0) (p.value r j)) ∙ ((λ j. bit_and (number_at s r a.0) (2 ^ sym c.requires.pair.alike j - 1 - number_at s r (c.if-x-a.true j))) ∙ v.and_not (width_at s a.0) (number_at s r a.0) (below s c.requires.sound r a.0 h))))

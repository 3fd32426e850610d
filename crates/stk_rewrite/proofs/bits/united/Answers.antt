use Rattle.std.proofs.Common.{◌≡◌, ◌≤◌, ◌<◌, ◌-◌, ◌^◌, refl, sym, ◌∙◌, subst, arith, bit_or}
use Rattle.std.specs.Int.Bits.{or_self}
use Rattle.std.proofs.lemmas.Nat.{pow_pos}
use Rattle.stk_terms.specs.declared.term.TermOp.TheVariants.{Or}
use Rattle.stk_terms.specs.Values.{width_at, number_at}
use Rattle.stk_terms.proofs.Reading.{below, most, least}
use Rattle.stk_rewrite.specs.declared.right.Right.TheVariants.{Two}
use Rattle.stk_rewrite.proofs.Leaves.{old_for, number_for}
use Rattle.stk_rewrite.proofs.Values as v
use Rattle.stk_rewrite.proofs.bits.united.Goals as goal

pub apply-ones-requires : goal.apply-ones-requires
apply-ones-requires c = let s = c.args.terms.now in let a = c.args.a in
    subst (λ w. (w ≤ 128) × (0 < 2 ^ w)) (sym c.width-width.ensures.is) (most s c.requires.sound a.0, pow_pos (width_at s a.0))

pub returns-then-a-b : goal.returns-then-a-b
returns-then-a-b c = let s = c.args.terms.now in let a = c.args.a in let b = c.args.b in
    old_for s (Two Or a b) a c.requires.pair.first refl
    (λ r h. sym ((λ j. bit_or (number_at s r a.0) (number_at s r (sym c.if-a-b.true j))) ∙ or_self (number_at s r a.0)))
    (λ d l k. k.0)

pub returns-then-x-a : goal.returns-then-x-a
returns-then-x-a c = let s = c.args.terms.now in let a = c.args.a in let b = c.args.b in let p = c.in-Some.ensures in
    let e : c.apply-ones.result ≡ 2 ^ width_at s a.0 - 1 = c.apply-ones.ensures ∙ (λ j. 2 ^ c.width-width.ensures.is j - 1 - 0) ∙ omega arith in
    number_for s (Two Or a b) c.width-width.result c.apply-ones.result
    (subst (λ w. (1 ≤ w) × (w ≤ 128) × (c.apply-ones.result < 2 ^ w)) (sym c.width-width.ensures.is) (least s c.requires.sound a.0 c.requires.first.normal.exists_, most s c.requires.sound a.0, omega (arith, e, pow_pos (width_at s a.0)))) c.width-width.ensures.is
    (λ r h. e ∙ sym ((λ j. bit_or (number_at s r a.0) (p.value r j)) ∙ ((λ j. bit_or (number_at s r a.0) (2 ^ sym c.requires.pair.alike j - 1 - number_at s r (c.if-x-a.true j))) ∙ v.or_not (width_at s a.0) (number_at s r a.0) (below s c.requires.sound r a.0 h))))

-- The shifts by 0, which are alike.
use Rattle.std.proofs.Common.{◌≡◌, ℕ, ◌+◌, ◌-◌, ◌*◌, ◌/◌, ◌%◌, ◌^◌, ◌<◌, ◌≤◌, Bool, true, false, List, refl, sym, ap, ◌∙◌, arith, nat_lt, if◌then◌else◌}
use Rattle.std.proofs.Math.Nat.{mod-eq_of_lt, div-one}
use Rattle.stk_terms.specs.declared.term.TermOp.{TermOp}
use Rattle.stk_terms.specs.declared.term.TermOp.TheVariants.{Shl, LShr, AShr}
use Rattle.stk_terms.specs.declared.term.TermId.{TermId}
use Rattle.stk_terms.specs.Terms.{Stored}
use Rattle.stk_terms.specs.Fitting.{IsSound}
use Rattle.stk_terms.specs.Values.{width_by, number_by, extended, sign_bits, width_at, number_at}
use Rattle.stk_terms.proofs.Reading.{below, least}
use Rattle.stk_rewrite.specs.Looks.{is_shift}
use Rattle.stk_rewrite.specs.Readings.{ArePair}
use Rattle.stk_rewrite.specs.Rights.{Replaces}
use Rattle.stk_rewrite.specs.declared.right.Right.TheVariants.{Old, Two}
use Rattle.stk_rewrite.proofs.Leaves.{old_for}

below_true : (m n : ℕ) → m < n → nat_lt m n ≡ true
below_true m n h = grind arith

shift_width : (op : TermOp) (inputs : List ℕ) (w v : ℕ) → is_shift op ≡ true → width_by inputs op w v ≡ w
shift_width Shl inputs w v h = refl
shift_width LShr inputs w v h = refl
shift_width AShr inputs w v h = refl
shift_width _ inputs w v h = absurd (cc)

-- by 0
chosen_first : (b : Bool) (x y : ℕ) → b ≡ true → (if b then x else y) ≡ x
chosen_first true x y h = refl
chosen_first false x y h = absurd (cc)

either_way : (b : Bool) (x y z : ℕ) → x ≡ z → y ≡ z → (if b then x else y) ≡ z
either_way true x y z h k = h
either_way false x y z h k = k

undivided : (x : ℕ) → x / 2 ^ 0 ≡ x
undivided x = div-one x

unextended : (w v x : ℕ) → w ≡ v → extended w v x ≡ x
unextended w v x e = either_way _ x (x + (2 ^ v - 2 ^ w)) x refl (let f : 2 ^ v - 2 ^ w ≡ 0 = (let g : 2 ^ w ≡ 2 ^ v = ap (λ n. 2 ^ n) e in omega (arith, g)) in omega (arith, f))

pub shifted_by_none : (op : TermOp) (r : List ℕ) (w v x z : ℕ) → is_shift op ≡ true → 1 ≤ w → x < 2 ^ w → number_by r op w v x 0 z ≡ x
shifted_by_none Shl r w v x z h l b = chosen_first (nat_lt 0 w) ((x * 2 ^ 0) % 2 ^ w) 0 (below_true 0 w l) ∙ (let e : x * 2 ^ 0 ≡ x = omega arith in ap (λ n. n % 2 ^ w) e ∙ mod-eq_of_lt b)
shifted_by_none LShr r w v x z h l b = chosen_first (nat_lt 0 w) (x / 2 ^ 0) 0 (below_true 0 w l) ∙ undivided x
shifted_by_none AShr r w v x z h l b = chosen_first (nat_lt 0 w) (extended (w - 0) w (x / 2 ^ 0)) (sign_bits w x) (below_true 0 w l) ∙ (unextended (w - 0) w (x / 2 ^ 0) (omega arith) ∙ undivided x)
shifted_by_none _ r w v x z h l b = absurd (cc)

module _ (s : Stored) (sound : IsSound s) (op : TermOp) (a b : TermId) (shift : is_shift op ≡ true) (pair : ArePair s a.0 b.0) where
  -- the shift by 0
  pub shift_by_none : ((r : List ℕ) → number_at s r b.0 ≡ 0) → Replaces s (Two op a b) (Old a)
  shift_by_none e = old_for s (Two op a b) a pair.first (sym (shift_width op s.inputs (width_at s a.0) (width_at s b.0) shift))
      (λ r h. sym (ap (λ y. number_by r op (width_at s a.0) (width_at s b.0) (number_at s r a.0) y 0) (e r) ∙ shifted_by_none op r (width_at s a.0) (width_at s b.0) (number_at s r a.0) 0 shift (least s sound a.0 pair.first.exists_) (below s sound r a.0 h)))
      (λ c l h. h.0)

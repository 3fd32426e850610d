-- Distances of addresses and bounds of indices, by bits.
use Rattle.std.proofs.Common.{◌≡◌, ℕ, suc, ◌+◌, ◌-◌, ◌%◌, ◌/◌, ◌^◌, ◌<◌, ◌≤◌, Bool, true, false, not, ◌&&◌, ◌||◌, ℤ, pos, negsuc, neg_ℤ, ◌-ℤ◌, refl, sym, ap, subst, ◌∙◌, arith, nat_eq, nat_lt, int_lt, if◌then◌else◌}
use Rattle.std.specs.Int.RustNames.{int_div, int_le}
use Rattle.std.specs.Ordering.{int_eq}
use Rattle.std.proofs.lemmas.Int.{ints}
use Rattle.std.proofs.Math.Nat.{mod-eq_of_lt, div-one}
use Rattle.stk_ctype.specs.declared.kind.IntKind.{IntKind}
use Rattle.stk_ctype.specs.declared.kind.IntKind.TheVariants as kind
use Rattle.stk_numbers.specs.declared.operators.ArithOp.TheVariants.{Div}
use Rattle.stk_numbers.specs.Kinds.{width_of, is_signed, residue, decoded, wrap}
use Rattle.stk_numbers.specs.Values.{bits_of, arith as arith_of, distance}
use Rattle.stk_numbers.specs.Conditions.{is_outside}
use Rattle.stk_numbers.proofs.Residues.{residue_sub, residue_below}
use Rattle.stk_numbers.proofs.Wrapping.{wrap_congruent}
use Rattle.stk_numbers.proofs.Dividing.{apart_eq}
use Rattle.stk_values.specs.Standing.{stands}
use Rattle.stk_symbols.specs.Standing.{is_plus, turned_bits, magnitude, same}
use Rattle.stk_symbols.proofs.Results.{wide_kind, narrow_kind}
use Rattle.stk_symbols.proofs.Signs.{halves, half_above, half_below}
use Rattle.stk_symbols.proofs.Sizes.{power_wider}
use Rattle.stk_symbols.proofs.Counts.{below_zero}
use Rattle.stk_symbols.proofs.Magnitudes.{signed_quotient_bits}

by_one : (u : ℤ) → int_div u (pos 1) ≡ u
by_one (pos a) = ap pos (div-one a)
by_one (negsuc a) = ap (λ n. neg_ℤ (pos n)) (div-one (suc a))

below_true : (m n : ℕ) → m < n → nat_lt m n ≡ true
below_true m n h = grind arith

below_false : (m n : ℕ) → n ≤ m → nat_lt m n ≡ false
below_false m n h = grind arith

module _ (n m size d : ℕ) (h : n < 2 ^ 64) (l : m < 2 ^ 64) (e : d ≡ (n + (2 ^ 64 - m)) % 2 ^ 64) where
  abbrev z : ℤ
  z = pos n -ℤ pos m

  difference : d ≡ residue 64 z
  difference = e ∙ sym (residue_sub 64 (pos n) (pos m) ∙ (λ i. (mod-eq_of_lt h i + (2 ^ 64 - mod-eq_of_lt l i)) % 2 ^ 64))

  pub distance_by_one : size ≡ 1 → d ≡ bits_of kind.Long (distance n m size)
  distance_by_one f = difference ∙ (sym (wrap_congruent kind.Long z refl) ∙ (ap (residue 64) (sym (by_one (wrap kind.Long z))) ∙ ap (λ s. residue 64 (int_div (wrap kind.Long z) (pos s))) (sym f)))

  pub distance_by : 1 ≤ size → size < 2 ^ 31 → turned_bits 64 (same (is_plus 64 d) (is_plus 64 size)) (if nat_eq (magnitude 64 size) 0 then 0 else magnitude 64 d / magnitude 64 size) ≡ bits_of kind.Long (distance n m size)
  distance_by o b =
      let big : size < 2 ^ 63 = omega (arith, b, power_wider 31 63 (omega arith)) in
      let hd : d < 2 ^ 64 = subst (λ k. k < 2 ^ 64) (sym difference) (residue_below 64 z) in
      let hs : size < 2 ^ 64 = omega (arith, b, power_wider 31 64 (omega arith)) in
      let x : stands kind.Long d ≡ wrap kind.Long z = ap (decoded true 64) difference in
      let y : stands kind.Long size ≡ pos size = ap (λ t. if t then pos size else pos size -ℤ pos (2 ^ 64)) (below_true size (2 ^ 63) big) in
      let f : int_eq (pos size) (pos 0) ≡ false = apart_eq (pos size) (pos 0) (λ g. omega (arith, ints)) in
      signed_quotient_bits kind.Long d size refl refl (omega arith) hd hs
      ∙ ((λ i. residue 64 (arith_of Div kind.Long (x i) (y i)))
      ∙ (ap (λ t. residue 64 (wrap kind.Long (if t then pos 0 else int_div (wrap kind.Long z) (pos size)))) f
      ∙ wrap_congruent kind.Long (int_div (wrap kind.Long z) (pos size)) refl))

-- indices
not_less : (C w : ℕ) → not (nat_lt C w) ≡ (int_lt (pos C) (pos 0) || int_le (pos w) (pos C))
not_less C w = grind (arith, ints)

and_yes : (a b : Bool) → b ≡ true → (a && b) ≡ a
and_yes true b e = e
and_yes false b e = refl

and_no : (a b : Bool) → b ≡ false → (a && b) ≡ false
and_no true b e = e
and_no false b e = refl

pub outside_plain : (k : IntKind) (n count : ℕ) → is_signed k ≡ false → n < 2 ^ width_of k → not (nat_lt (residue 64 (stands k n)) count) ≡ is_outside (stands k n) count
outside_plain k n count s h =
    let e : stands k n ≡ pos n = ap (λ t. decoded t (width_of k) n) s in
    let r : residue 64 (stands k n) ≡ n = ap (residue 64) e ∙ mod-eq_of_lt (omega (arith, h, power_wider (width_of k) 64 (narrow_kind k))) in
    ap (λ u. not (nat_lt u count)) r ∙ (not_less n count ∙ ap (λ x. is_outside x count) (sym e))

pub outside_signed : (k : IntKind) (n count : ℕ) → is_signed k ≡ true → n < 2 ^ width_of k → not (nat_lt (residue 64 (stands k n)) count && is_plus 64 (residue 64 (stands k n))) ≡ is_outside (stands k n) count
outside_signed k n count s h = by (nat_lt n (2 ^ (width_of k - 1))) refl
  where
    by : (t : Bool) → nat_lt n (2 ^ (width_of k - 1)) ≡ t → not (nat_lt (residue 64 (stands k n)) count && is_plus 64 (residue 64 (stands k n))) ≡ is_outside (stands k n) count
    by true f =
        let e : stands k n ≡ pos n = ap (λ t. decoded t (width_of k) n) s ∙ ap (λ t. if t then pos n else pos n -ℤ pos (2 ^ width_of k)) f in
        let r : residue 64 (stands k n) ≡ n = ap (residue 64) e ∙ mod-eq_of_lt (omega (arith, h, power_wider (width_of k) 64 (narrow_kind k))) in
        let p : nat_lt n (2 ^ 63) ≡ true = below_true n (2 ^ 63) (let q = half_below n (2 ^ (width_of k - 1)) f in let o = narrow_kind k in omega (arith, q, power_wider (width_of k - 1) 63 (omega (arith, o)))) in
        ap (λ u. not (nat_lt u count && is_plus 64 u)) r ∙ (ap not (and_yes (nat_lt n count) (nat_lt n (2 ^ 63)) p) ∙ (not_less n count ∙ ap (λ x. is_outside x count) (sym e)))
    by false f =
        let g = half_above n (2 ^ (width_of k - 1)) f in
        let v = halves (width_of k) (wide_kind k) in
        let a = 2 ^ width_of k - 1 - n in
        let o = narrow_kind k in
        let q : a < 2 ^ 63 = omega (arith, g, v, h, power_wider (width_of k - 1) 63 (omega (arith, o))) in
        let e : stands k n ≡ negsuc a = ap (λ t. decoded t (width_of k) n) s ∙ (ap (λ t. if t then pos n else pos n -ℤ pos (2 ^ width_of k)) f ∙ below_zero n (2 ^ width_of k) h) in
        let w = halves 64 (omega arith) in
        let r : residue 64 (stands k n) ≡ 2 ^ 64 - 1 - a = ap (residue 64) e ∙ ap (λ u. 2 ^ 64 - 1 - u) (mod-eq_of_lt (omega (arith, q, w))) in
        let p : nat_lt (2 ^ 64 - 1 - a) (2 ^ 63) ≡ false = below_false (2 ^ 64 - 1 - a) (2 ^ 63) (omega (arith, q, w)) in
        ap (λ u. not (nat_lt u count && is_plus 64 u)) r ∙ (ap not (and_no (nat_lt (2 ^ 64 - 1 - a) count) (nat_lt (2 ^ 64 - 1 - a) (2 ^ 63)) p) ∙ ap (λ x. is_outside x count) (sym e))

pub either : {A : Type 0} (b : Bool) → (b ≡ true → A) → (b ≡ false → A) → A
either true f g = f refl
either false f g = g refl

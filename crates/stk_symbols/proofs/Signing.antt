-- Sign bits, and equalities and orders by bits.
use Rattle.std.proofs.Common.{◌≡◌, ℕ, ◌+◌, ◌-◌, ◌/◌, ◌%◌, ◌^◌, ◌<◌, ◌≤◌, Bool, true, false, not, ℤ, refl, sym, ap, subst, arith, nat_eq, nat_lt, int_lt}
use Rattle.std.specs.Ordering.{int_eq}
use Rattle.std.specs.Int.RustNames.{int_le}
use Rattle.std.proofs.lemmas.Int.{ints}
use Rattle.std.proofs.lemmas.Bool.{eq-eqb}
use Rattle.std.proofs.Math.Nat.{div-eq_of_lt, div-eq_of_lt-le}
use Rattle.stk_terms.specs.Values.{bit}
use Rattle.stk_numbers.specs.Kinds.{decoded}
use Rattle.stk_numbers.proofs.Residues.{same_bits}
use Rattle.stk_symbols.proofs.Signs.{halves, half_below, half_above}

pub top_bit : (w n : ℕ) → 1 ≤ w → n < 2 ^ w → n / 2 ^ (w - 1) % 2 ^ 1 ≡ bit (not (nat_lt n (2 ^ (w - 1))))
top_bit w n o h = by (nat_lt n (2 ^ (w - 1))) refl
  where
    by : (b : Bool) → nat_lt n (2 ^ (w - 1)) ≡ b → n / 2 ^ (w - 1) % 2 ^ 1 ≡ bit (not b)
    by true e = ap (λ q. q % 2 ^ 1) (div-eq_of_lt (half_below n (2 ^ (w - 1)) e))
    by false e =
        let H = 2 ^ (w - 1) in
        let l : H ≤ n = half_above n H e in
        let u : n < H + H = subst (λ M. n < M) (halves w o) h in
        ap (λ q. q % 2 ^ 1) (div-eq_of_lt-le {k = 1} H (omega arith) (omega arith))

int_same : (x y : ℤ) → int_eq x y ≡ true → x ≡ y
int_same x y e = grind (arith, ints)

int_apart : (x y : ℤ) → int_eq x y ≡ false → x ≡ y → ⊥
int_apart x y e f = grind (arith, ints)

apart : (a b : ℕ) → (a ≡ b → ⊥) → nat_eq a b ≡ false
apart a b f = grind arith

-- two numbers of a kind are equal where their bits are
pub equal_bits : (s : Bool) (w n m : ℕ) → n < 2 ^ w → m < 2 ^ w → nat_eq n m ≡ int_eq (decoded s w n) (decoded s w m)
equal_bits s w n m h k = by (int_eq (decoded s w n) (decoded s w m)) refl
  where
    by : (b : Bool) → int_eq (decoded s w n) (decoded s w m) ≡ b → nat_eq n m ≡ b
    by true e = eq-eqb n m (same_bits s w n m h k (int_same (decoded s w n) (decoded s w m) e))
    by false e = apart n m (λ f. int_apart (decoded s w n) (decoded s w m) e (ap (decoded s w) f))

pub not_below : (x y : ℤ) → not (int_lt y x) ≡ int_le x y
not_below x y = by (int_lt y x) refl
  where
    by : (b : Bool) → int_lt y x ≡ b → not b ≡ int_le x y
    by true e = sym (grind (arith, ints))
    by false e = sym (grind (arith, ints))

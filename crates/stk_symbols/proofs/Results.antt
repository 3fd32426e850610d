-- The bits of the values of operators, for the bits of their operands.
use Rattle.std.proofs.Common.{◌≡◌, ℕ, zero, suc, ◌+◌, ◌-◌, ◌*◌, ◌/◌, ◌%◌, ◌^◌, ◌<◌, ◌≤◌, Bool, true, false, pos, ◌+ℤ◌, ◌-ℤ◌, ◌*ℤ◌, refl, sym, ◌∙◌, arith, nat_eq, bit_and, bit_or, bit_xor, if◌then◌else◌}
use Rattle.std.specs.Int.RustNames.{int_div, int_rem}
use Rattle.std.specs.Ordering.{int_eq}
use Rattle.std.proofs.lemmas.Nat.{pow_pos, or_lt, xor_lt, and_le_l}
use Rattle.std.proofs.Math.Nat.{mod-eq_of_lt, div-le_self, mod-le}
use Rattle.stk_ctype.specs.declared.kind.IntKind.{IntKind}
use Rattle.stk_ctype.specs.declared.kind.IntKind.TheVariants as kind
use Rattle.stk_numbers.specs.declared.operators.ArithOp.TheVariants.{Add, Sub, Mul, Div, Rem, And, Xor, Or}
use Rattle.stk_numbers.specs.Kinds.{width_of, is_signed, is_bool, residue, decoded}
use Rattle.stk_numbers.specs.Values.{exact, arith as arith_of, bits_of}
use Rattle.stk_numbers.proofs.Residues.{residue_add, residue_sub, residue_mul, residue_decoded}
use Rattle.stk_numbers.proofs.Wrapping.{wrap_congruent}
use Rattle.stk_numbers.proofs.Dividing.{apart_eq}
use Rattle.stk_values.specs.Standing.{stands}

pub wide_kind : (k : IntKind) → 1 ≤ width_of k
wide_kind kind.Bool = omega arith
wide_kind kind.Char = omega arith
wide_kind kind.SChar = omega arith
wide_kind kind.UChar = omega arith
wide_kind kind.Short = omega arith
wide_kind kind.UShort = omega arith
wide_kind kind.Int = omega arith
wide_kind kind.UInt = omega arith
wide_kind kind.Long = omega arith
wide_kind kind.ULong = omega arith
wide_kind kind.LLong = omega arith
wide_kind kind.ULLong = omega arith

pub narrow_kind : (k : IntKind) → width_of k ≤ 64
narrow_kind kind.Bool = omega arith
narrow_kind kind.Char = omega arith
narrow_kind kind.SChar = omega arith
narrow_kind kind.UChar = omega arith
narrow_kind kind.Short = omega arith
narrow_kind kind.UShort = omega arith
narrow_kind kind.Int = omega arith
narrow_kind kind.UInt = omega arith
narrow_kind kind.Long = omega arith
narrow_kind kind.ULong = omega arith
narrow_kind kind.LLong = omega arith
narrow_kind kind.ULLong = omega arith

module _ (k : IntKind) (n m : ℕ) (other : is_bool k ≡ false) (h : n < 2 ^ width_of k) (l : m < 2 ^ width_of k) where
  left : residue (width_of k) (stands k n) ≡ n
  left = residue_decoded (is_signed k) (width_of k) n h

  right : residue (width_of k) (stands k m) ≡ m
  right = residue_decoded (is_signed k) (width_of k) m l

  pub sum_bits : (n + m) % 2 ^ width_of k ≡ bits_of k (arith_of Add k (stands k n) (stands k m))
  sum_bits = sym (wrap_congruent k (stands k n +ℤ stands k m) other ∙ (residue_add (width_of k) _ _ ∙ (λ i. (left i + right i) % 2 ^ width_of k)))

  pub difference_bits : (n + (2 ^ width_of k - m)) % 2 ^ width_of k ≡ bits_of k (arith_of Sub k (stands k n) (stands k m))
  difference_bits = sym (wrap_congruent k (stands k n -ℤ stands k m) other ∙ (residue_sub (width_of k) _ _ ∙ (λ i. (left i + (2 ^ width_of k - right i)) % 2 ^ width_of k)))

  pub product_bits : (n * m) % 2 ^ width_of k ≡ bits_of k (arith_of Mul k (stands k n) (stands k m))
  product_bits = sym (wrap_congruent k (stands k n *ℤ stands k m) other ∙ (residue_mul (width_of k) _ _ ∙ (λ i. (left i * right i) % 2 ^ width_of k)))

  pub and_bits : bit_and n m ≡ bits_of k (arith_of And k (stands k n) (stands k m))
  and_bits =
      let b : bit_and n m < 2 ^ width_of k = omega (arith, and_le_l n m, h) in
      sym (wrap_congruent k (exact And k (stands k n) (stands k m)) other ∙ ((λ i. bit_and (left i) (right i) % 2 ^ width_of k) ∙ mod-eq_of_lt b))

  pub or_bits : bit_or n m ≡ bits_of k (arith_of Or k (stands k n) (stands k m))
  or_bits = sym (wrap_congruent k (exact Or k (stands k n) (stands k m)) other ∙ ((λ i. bit_or (left i) (right i) % 2 ^ width_of k) ∙ mod-eq_of_lt (or_lt (width_of k) n m h l)))

  pub xor_bits : bit_xor n m ≡ bits_of k (arith_of Xor k (stands k n) (stands k m))
  xor_bits = sym (wrap_congruent k (exact Xor k (stands k n) (stands k m)) other ∙ ((λ i. bit_xor (left i) (right i) % 2 ^ width_of k) ∙ mod-eq_of_lt (xor_lt (width_of k) n m h l)))

-- quotients and remainders without signs
plain_quotient : (w n m : ℕ) → n < 2 ^ w → (b : Bool) → int_eq (pos m) (pos 0) ≡ b → nat_eq m 0 ≡ b → (if nat_eq m 0 then 0 else n / m) ≡ residue w (if int_eq (pos m) (pos 0) then pos 0 else int_div (pos n) (pos m))
plain_quotient w n m h true e f = rw (e, f) (sym (mod-eq_of_lt (pow_pos w)))
plain_quotient w n m h false e f = rw (e, f) (sym (mod-eq_of_lt (omega (arith, h, div-le_self n m))))

plain_remainder : (w n m : ℕ) → n < 2 ^ w → (b : Bool) → int_eq (pos m) (pos 0) ≡ b → nat_eq m 0 ≡ b → (if nat_eq m 0 then n else n % m) ≡ residue w (if int_eq (pos m) (pos 0) then pos n else int_rem (pos n) (pos m))
plain_remainder w n m h true e f = rw (e, f) (sym (mod-eq_of_lt h))
plain_remainder w n m h false e f = rw (e, f) (sym (mod-eq_of_lt (omega (arith, h, mod-le n m))))

pub zero_tests : (m : ℕ) → int_eq (pos m) (pos 0) ≡ nat_eq m 0
zero_tests zero = refl
zero_tests (suc m) = apart_eq (pos (suc m)) (pos 0) (λ e. cc) ∙ omega_false
  where
    omega_false : false ≡ nat_eq (suc m) 0
    omega_false = sym (grind arith)

module _ (k : IntKind) (n m : ℕ) (other : is_bool k ≡ false) (plain : is_signed k ≡ false) (h : n < 2 ^ width_of k) where
  pub plain_quotient_bits : (if nat_eq m 0 then 0 else n / m) ≡ bits_of k (arith_of Div k (stands k n) (stands k m))
  plain_quotient_bits =
      plain_quotient (width_of k) n m h (nat_eq m 0) (zero_tests m) refl
      ∙ ((λ i. residue (width_of k) (exact Div k (decoded (sym plain i) (width_of k) n) (decoded (sym plain i) (width_of k) m))) ∙ sym (wrap_congruent k (exact Div k (stands k n) (stands k m)) other))

  pub plain_remainder_bits : (if nat_eq m 0 then n else n % m) ≡ bits_of k (arith_of Rem k (stands k n) (stands k m))
  plain_remainder_bits =
      plain_remainder (width_of k) n m h (nat_eq m 0) (zero_tests m) refl
      ∙ ((λ i. residue (width_of k) (exact Rem k (decoded (sym plain i) (width_of k) n) (decoded (sym plain i) (width_of k) m))) ∙ sym (wrap_congruent k (exact Rem k (stands k n) (stands k m)) other))

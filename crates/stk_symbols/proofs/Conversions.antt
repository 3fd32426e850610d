-- Conversions by bits.
use Rattle.std.proofs.Common.{◌≡◌, ℕ, ◌*◌, ◌-◌, ◌^◌, ◌<◌, ◌≤◌, Bool, true, false, not, ℤ, pos, refl, sym, arith, nat_lt, if◌then◌else◌}
use Rattle.std.specs.Ordering.{int_eq}
use Rattle.std.proofs.lemmas.Nat.{pow_pos}
use Rattle.stk_ctype.specs.declared.kind.IntKind.{IntKind}
use Rattle.stk_ctype.specs.declared.kind.IntKind.TheVariants as kind
use Rattle.stk_numbers.specs.Kinds.{width_of, is_signed, is_bool, residue, decoded, wrap}
use Rattle.stk_numbers.specs.Values.{bits_of}
use Rattle.stk_numbers.proofs.Wrapping.{wrap_congruent}
use Rattle.stk_terms.specs.Values.{bit}
use Rattle.stk_values.specs.Charges.{convert_charge}
use Rattle.stk_values.specs.Standing.{stands}

zero_below : (n : ℕ) → 0 < n → nat_lt 0 n ≡ true
zero_below n h = grind arith

zero_decoded : (s : Bool) (w : ℕ) → decoded s w 0 ≡ pos 0
zero_decoded false w = refl
zero_decoded true w = rw (zero_below (2 ^ (w - 1)) (pow_pos (w - 1))) refl

pub zero_stands : (k : IntKind) → stands k 0 ≡ pos 0
zero_stands k = zero_decoded (is_signed k) (width_of k)

pub truth_bits : (z : ℤ) → bit (not (int_eq z (pos 0))) ≡ bits_of kind.Bool (wrap kind.Bool z)
truth_bits z = by (int_eq z (pos 0))
  where
    by : (b : Bool) → bit (not b) ≡ residue 1 (if b then pos 0 else pos 1)
    by true = refl
    by false = refl

pub resized_bits : (k : IntKind) (z : ℤ) → is_bool k ≡ false → residue (width_of k) z ≡ bits_of k (wrap k z)
resized_bits k z other = sym (wrap_congruent k z other)

pub wider_bool : (k : IntKind) → 4 * width_of k ≤ convert_charge k kind.Bool
wider_bool kind.Bool = omega arith
wider_bool kind.Char = omega arith
wider_bool kind.SChar = omega arith
wider_bool kind.UChar = omega arith
wider_bool kind.Short = omega arith
wider_bool kind.UShort = omega arith
wider_bool kind.Int = omega arith
wider_bool kind.UInt = omega arith
wider_bool kind.Long = omega arith
wider_bool kind.ULong = omega arith
wider_bool kind.LLong = omega arith
wider_bool kind.ULLong = omega arith

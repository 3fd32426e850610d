-- The numbers of a kind and the bits that stand for them.
use Rattle.std.proofs.Common.{◌≡◌, ℕ, zero, suc, ◌^◌, ◌<◌, true, false, ℤ, pos, negsuc, refl, sym, ap, ◌∙◌, arith, if◌then◌else◌}
use Rattle.std.specs.Ordering.{int_eq}
use Rattle.std.proofs.lemmas.Int.{ints}
use Rattle.std.proofs.Math.Nat.{mod-eq_of_lt}
use Rattle.stk_ctype.specs.declared.kind.IntKind.{IntKind}
use Rattle.stk_ctype.specs.declared.kind.IntKind.TheVariants as kind
use Rattle.stk_numbers.specs.Kinds.{width_of, is_bool, fits, residue, wrap}
use Rattle.stk_numbers.specs.Values.{bits_of}
use Rattle.stk_numbers.proofs.Bounds.{both_ends}
use Rattle.stk_numbers.proofs.Wrapping.{wrap_in_range, wrap_stays}
use Rattle.stk_values.specs.Standing.{stands}

-- a conversion to a kind other than `_Bool` decodes the residue
plain_wrap : (k : IntKind) (z : ℤ) → is_bool k ≡ false → wrap k z ≡ stands k (bits_of k z)
plain_wrap k z other = ap (λ b. if b then (if int_eq z (pos 0) then pos 0 else pos 1) else stands k (bits_of k z)) other

plain_fits : (k : IntKind) (n : ℕ) → is_bool k ≡ false → n < 2 ^ width_of k → fits k (stands k n) ≡ true
plain_fits k n other h = ap (λ m. fits k (stands k m)) (sym (mod-eq_of_lt h)) ∙ (ap (fits k) (sym (plain_wrap k (pos n) other)) ∙ wrap_in_range k (pos n))

truth_fits : (n : ℕ) → n < 2 → fits kind.Bool (pos n) ≡ true
truth_fits zero h = refl
truth_fits (suc zero) h = refl
truth_fits (suc (suc n)) h = absurd (omega (arith, h))

by_bool : (P : IntKind → Type 0) (k : IntKind) → (is_bool k ≡ false → P k) → P kind.Bool → P k
by_bool P kind.Bool f b = b
by_bool P kind.Char f b = f refl
by_bool P kind.SChar f b = f refl
by_bool P kind.UChar f b = f refl
by_bool P kind.Short f b = f refl
by_bool P kind.UShort f b = f refl
by_bool P kind.Int f b = f refl
by_bool P kind.UInt f b = f refl
by_bool P kind.Long f b = f refl
by_bool P kind.ULong f b = f refl
by_bool P kind.LLong f b = f refl
by_bool P kind.ULLong f b = f refl

-- the number of bits of a kind is in its range
pub stands_fits : (k : IntKind) (n : ℕ) → n < 2 ^ width_of k → fits k (stands k n) ≡ true
stands_fits k n = by_bool (λ j. n < 2 ^ width_of j → fits j (stands j n) ≡ true) k (plain_fits k n) (truth_fits n)

truth_back : (z : ℤ) → fits kind.Bool z ≡ true → pos (residue 1 z) ≡ z
truth_back (pos zero) h = refl
truth_back (pos (suc zero)) h = refl
truth_back (pos (suc (suc n))) h =
    let high = (both_ends (pos 0) (pos 1) (pos (suc (suc n))) h).1 in
    absurd (omega (arith, ints))
truth_back (negsuc n) h = cc

-- a number of the range is what its bits stand for
pub stands_back : (k : IntKind) (z : ℤ) → fits k z ≡ true → stands k (bits_of k z) ≡ z
stands_back k z = by_bool (λ j. fits j z ≡ true → stands j (bits_of j z) ≡ z) k (λ other h. sym (plain_wrap k z other) ∙ wrap_stays k z h) (truth_back z)

-- Numbers that conversions leave as they are, and moves by elements of size 0.
use Rattle.std.proofs.Common.{◌≡◌, ◌+◌, ◌-◌, ◌^◌, ◌%◌, ◌≤ℤ◌, true, false, ◌&&◌, ℤ, pos, ◌-ℤ◌, refl, sym, ap, ◌∙◌, arith, if◌then◌else◌}
use Rattle.std.specs.Prelude.{int_le, IsTrue}
use Rattle.std.specs.Ordering.{int_eq}
use Rattle.std.proofs.lemmas.Int.{ints}
use Rattle.stk_ctype.specs.declared.kind.IntKind.{IntKind}
use Rattle.stk_ctype.specs.declared.kind.IntKind.TheVariants as kind
use Rattle.stk_numbers.specs.Kinds.{width_of, is_bool, is_signed, least, greatest, residue, decoded, fits, wrap, promote}
use Rattle.stk_numbers.proofs.Bounds.{both_ends, within_ends}
use Rattle.stk_numbers.proofs.Residues.{residue_sub}
use Rattle.stk_numbers.proofs.Wrapping.{wrap_congruent, wrap_stays}

-- no promoted kind is `_Bool`
pub promoted_is_plain : (k : IntKind) → is_bool (promote k) ≡ false
promoted_is_plain kind.Bool = refl
promoted_is_plain kind.Char = refl
promoted_is_plain kind.SChar = refl
promoted_is_plain kind.UChar = refl
promoted_is_plain kind.Short = refl
promoted_is_plain kind.UShort = refl
promoted_is_plain kind.Int = refl
promoted_is_plain kind.UInt = refl
promoted_is_plain kind.Long = refl
promoted_is_plain kind.ULong = refl
promoted_is_plain kind.LLong = refl
promoted_is_plain kind.ULLong = refl

-- a conversion to another kind than `_Bool` looks at the residue alone
plain_wrap : (k : IntKind) (z : ℤ) → is_bool k ≡ false → wrap k z ≡ decoded (is_signed k) (width_of k) (residue (width_of k) z)
plain_wrap k z other = ap (λ b. if b then (if int_eq z (pos 0) then pos 0 else pos 1) else decoded (is_signed k) (width_of k) (residue (width_of k) z)) other

-- a difference of converted numbers
pub difference_wraps : (k : IntKind) (a b : ℤ) → is_bool k ≡ false → wrap k (wrap k a -ℤ wrap k b) ≡ wrap k (a -ℤ b)
difference_wraps k a b other =
    let w = width_of k in
    plain_wrap k (wrap k a -ℤ wrap k b) other
    ∙ ap (decoded (is_signed k) w)
    (residue_sub w (wrap k a) (wrap k b)
    ∙ ap (λ n. (n + (2 ^ w - residue w (wrap k b))) % 2 ^ w) (wrap_congruent k a other)
    ∙ ap (λ n. (residue w a + (2 ^ w - n)) % 2 ^ w) (wrap_congruent k b other)
    ∙ sym (residue_sub w a b))
    ∙ sym (plain_wrap k (a -ℤ b) other)

-- a promotion changes no number
widened : (low high a b z : ℤ) → (int_le a z && int_le z b) ≡ true → low ≤ℤ a → b ≤ℤ high → (int_le low z && int_le z high) ≡ true
widened low high a b z within below above =
    let ends = both_ends a b z within in
    let l = ends.0 in
    let h = ends.1 in
    within_ends low high z (omega (arith, ints)) (omega (arith, ints))

promoted_fits : (k : IntKind) (z : ℤ) → fits k z ≡ true → fits (promote k) z ≡ true
promoted_fits kind.Bool z w = widened (least kind.Int) (greatest kind.Int) (least kind.Bool) (greatest kind.Bool) z w (omega (arith, ints)) (omega (arith, ints))
promoted_fits kind.Char z w = widened (least kind.Int) (greatest kind.Int) (least kind.Char) (greatest kind.Char) z w (omega (arith, ints)) (omega (arith, ints))
promoted_fits kind.SChar z w = widened (least kind.Int) (greatest kind.Int) (least kind.SChar) (greatest kind.SChar) z w (omega (arith, ints)) (omega (arith, ints))
promoted_fits kind.UChar z w = widened (least kind.Int) (greatest kind.Int) (least kind.UChar) (greatest kind.UChar) z w (omega (arith, ints)) (omega (arith, ints))
promoted_fits kind.Short z w = widened (least kind.Int) (greatest kind.Int) (least kind.Short) (greatest kind.Short) z w (omega (arith, ints)) (omega (arith, ints))
promoted_fits kind.UShort z w = widened (least kind.Int) (greatest kind.Int) (least kind.UShort) (greatest kind.UShort) z w (omega (arith, ints)) (omega (arith, ints))
promoted_fits kind.Int z w = w
promoted_fits kind.UInt z w = w
promoted_fits kind.Long z w = w
promoted_fits kind.ULong z w = w
promoted_fits kind.LLong z w = w
promoted_fits kind.ULLong z w = w

pub promoted_stays : (k : IntKind) (z : ℤ) → IsTrue (fits k z) → wrap (promote k) z ≡ z
promoted_stays k z within = wrap_stays (promote k) z (promoted_fits k z within)

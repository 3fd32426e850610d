-- Bounds of the numbers of each kind.
use Rattle.std.proofs.Common.{◌≡◌, ◌-◌, ◌^◌, Bool, true, false, ◌&&◌, ℤ, pos, negsuc, ◌≤ℤ◌, refl, ap, ◌∙◌, arith}
use Rattle.std.specs.Prelude.{int_le}
use Rattle.std.proofs.lemmas.Int.{ints}
use Rattle.stk_ctype.specs.declared.kind.IntKind.{IntKind}
use Rattle.stk_ctype.specs.declared.kind.IntKind.TheVariants as kind
use Rattle.stk_numbers.specs.Kinds.{is_signed, least, greatest, fits}

pub both_true : (a b : Bool) → (a && b) ≡ true → (a ≡ true) × (b ≡ true)
both_true true b e = (refl, e)
both_true false b e = (cc, cc)

at_most : (x y : ℤ) → int_le x y ≡ true → x ≤ℤ y
at_most x y e = grind (arith, ints)

pub le_true : (x y : ℤ) → x ≤ℤ y → int_le x y ≡ true
le_true x y h = grind (arith, ints)

pub both_ends : (low high z : ℤ) → (int_le low z && int_le z high) ≡ true → (low ≤ℤ z) × (z ≤ℤ high)
both_ends low high z within = let both = both_true (int_le low z) (int_le z high) within in (at_most low z both.0, at_most z high both.1)

pub within_ends : (low high z : ℤ) → low ≤ℤ z → z ≤ℤ high → (int_le low z && int_le z high) ≡ true
within_ends low high z below above = ap (λ b. b && int_le z high) (le_true low z below) ∙ le_true z high above

wider : (low high a b z : ℤ) → (int_le a z && int_le z b) ≡ true → low ≤ℤ a → b ≤ℤ high → (low ≤ℤ z) × (z ≤ℤ high)
wider low high a b z within below above =
    let ends = both_ends a b z within in
    let l = ends.0 in
    let h = ends.1 in
    (omega (arith, ints), omega (arith, ints))

-- a number of a signed kind
pub signed_bounds : (k : IntKind) (z : ℤ) → is_signed k ≡ true → fits k z ≡ true → (negsuc (2 ^ 63 - 1) ≤ℤ z) × (z ≤ℤ pos (2 ^ 63 - 1))
signed_bounds kind.Bool z signed within = (cc, cc)
signed_bounds kind.Char z signed within = wider (negsuc (2 ^ 63 - 1)) (pos (2 ^ 63 - 1)) (least kind.Char) (greatest kind.Char) z within (omega (arith, ints)) (omega (arith, ints))
signed_bounds kind.SChar z signed within = wider (negsuc (2 ^ 63 - 1)) (pos (2 ^ 63 - 1)) (least kind.SChar) (greatest kind.SChar) z within (omega (arith, ints)) (omega (arith, ints))
signed_bounds kind.UChar z signed within = (cc, cc)
signed_bounds kind.Short z signed within = wider (negsuc (2 ^ 63 - 1)) (pos (2 ^ 63 - 1)) (least kind.Short) (greatest kind.Short) z within (omega (arith, ints)) (omega (arith, ints))
signed_bounds kind.UShort z signed within = (cc, cc)
signed_bounds kind.Int z signed within = wider (negsuc (2 ^ 63 - 1)) (pos (2 ^ 63 - 1)) (least kind.Int) (greatest kind.Int) z within (omega (arith, ints)) (omega (arith, ints))
signed_bounds kind.UInt z signed within = (cc, cc)
signed_bounds kind.Long z signed within = wider (negsuc (2 ^ 63 - 1)) (pos (2 ^ 63 - 1)) (least kind.Long) (greatest kind.Long) z within (omega (arith, ints)) (omega (arith, ints))
signed_bounds kind.ULong z signed within = (cc, cc)
signed_bounds kind.LLong z signed within = wider (negsuc (2 ^ 63 - 1)) (pos (2 ^ 63 - 1)) (least kind.LLong) (greatest kind.LLong) z within (omega (arith, ints)) (omega (arith, ints))
signed_bounds kind.ULLong z signed within = (cc, cc)

-- a number of an unsigned kind
pub unsigned_bounds : (k : IntKind) (z : ℤ) → is_signed k ≡ false → fits k z ≡ true → (pos 0 ≤ℤ z) × (z ≤ℤ pos (2 ^ 64 - 1))
unsigned_bounds kind.Bool z signed within = wider (pos 0) (pos (2 ^ 64 - 1)) (least kind.Bool) (greatest kind.Bool) z within (omega (arith, ints)) (omega (arith, ints))
unsigned_bounds kind.Char z signed within = (cc, cc)
unsigned_bounds kind.SChar z signed within = (cc, cc)
unsigned_bounds kind.UChar z signed within = wider (pos 0) (pos (2 ^ 64 - 1)) (least kind.UChar) (greatest kind.UChar) z within (omega (arith, ints)) (omega (arith, ints))
unsigned_bounds kind.Short z signed within = (cc, cc)
unsigned_bounds kind.UShort z signed within = wider (pos 0) (pos (2 ^ 64 - 1)) (least kind.UShort) (greatest kind.UShort) z within (omega (arith, ints)) (omega (arith, ints))
unsigned_bounds kind.Int z signed within = (cc, cc)
unsigned_bounds kind.UInt z signed within = wider (pos 0) (pos (2 ^ 64 - 1)) (least kind.UInt) (greatest kind.UInt) z within (omega (arith, ints)) (omega (arith, ints))
unsigned_bounds kind.Long z signed within = (cc, cc)
unsigned_bounds kind.ULong z signed within = wider (pos 0) (pos (2 ^ 64 - 1)) (least kind.ULong) (greatest kind.ULong) z within (omega (arith, ints)) (omega (arith, ints))
unsigned_bounds kind.LLong z signed within = (cc, cc)
unsigned_bounds kind.ULLong z signed within = wider (pos 0) (pos (2 ^ 64 - 1)) (least kind.ULLong) (greatest kind.ULLong) z within (omega (arith, ints)) (omega (arith, ints))

-- a number of any kind
pub kind_bounds : (k : IntKind) (z : ℤ) → fits k z ≡ true → (negsuc (2 ^ 63 - 1) ≤ℤ z) × (z ≤ℤ pos (2 ^ 64 - 1))
kind_bounds kind.Bool z within = wider (negsuc (2 ^ 63 - 1)) (pos (2 ^ 64 - 1)) (least kind.Bool) (greatest kind.Bool) z within (omega (arith, ints)) (omega (arith, ints))
kind_bounds kind.Char z within = wider (negsuc (2 ^ 63 - 1)) (pos (2 ^ 64 - 1)) (least kind.Char) (greatest kind.Char) z within (omega (arith, ints)) (omega (arith, ints))
kind_bounds kind.SChar z within = wider (negsuc (2 ^ 63 - 1)) (pos (2 ^ 64 - 1)) (least kind.SChar) (greatest kind.SChar) z within (omega (arith, ints)) (omega (arith, ints))
kind_bounds kind.UChar z within = wider (negsuc (2 ^ 63 - 1)) (pos (2 ^ 64 - 1)) (least kind.UChar) (greatest kind.UChar) z within (omega (arith, ints)) (omega (arith, ints))
kind_bounds kind.Short z within = wider (negsuc (2 ^ 63 - 1)) (pos (2 ^ 64 - 1)) (least kind.Short) (greatest kind.Short) z within (omega (arith, ints)) (omega (arith, ints))
kind_bounds kind.UShort z within = wider (negsuc (2 ^ 63 - 1)) (pos (2 ^ 64 - 1)) (least kind.UShort) (greatest kind.UShort) z within (omega (arith, ints)) (omega (arith, ints))
kind_bounds kind.Int z within = wider (negsuc (2 ^ 63 - 1)) (pos (2 ^ 64 - 1)) (least kind.Int) (greatest kind.Int) z within (omega (arith, ints)) (omega (arith, ints))
kind_bounds kind.UInt z within = wider (negsuc (2 ^ 63 - 1)) (pos (2 ^ 64 - 1)) (least kind.UInt) (greatest kind.UInt) z within (omega (arith, ints)) (omega (arith, ints))
kind_bounds kind.Long z within = wider (negsuc (2 ^ 63 - 1)) (pos (2 ^ 64 - 1)) (least kind.Long) (greatest kind.Long) z within (omega (arith, ints)) (omega (arith, ints))
kind_bounds kind.ULong z within = wider (negsuc (2 ^ 63 - 1)) (pos (2 ^ 64 - 1)) (least kind.ULong) (greatest kind.ULong) z within (omega (arith, ints)) (omega (arith, ints))
kind_bounds kind.LLong z within = wider (negsuc (2 ^ 63 - 1)) (pos (2 ^ 64 - 1)) (least kind.LLong) (greatest kind.LLong) z within (omega (arith, ints)) (omega (arith, ints))
kind_bounds kind.ULLong z within = wider (negsuc (2 ^ 63 - 1)) (pos (2 ^ 64 - 1)) (least kind.ULLong) (greatest kind.ULLong) z within (omega (arith, ints)) (omega (arith, ints))

-- Laws of the values of operators and of common kinds.
use Rattle.std.proofs.Common.{◌≡◌, Bool, true, false, not, ◌&&◌, ℤ, refl}
use Rattle.stk_ctype.specs.declared.kind.IntKind.{IntKind}
use Rattle.stk_ctype.specs.declared.kind.IntKind.TheVariants as kind
use Rattle.stk_numbers.specs.declared.operators.ArithOp.TheVariants.{Add, Sub, Mul}
use Rattle.stk_numbers.specs.declared.conditions.UbKind.TheVariants as ub
use Rattle.stk_numbers.specs.Kinds.{is_signed, fits, common}
use Rattle.stk_numbers.specs.Values.{exact, arith}
use Rattle.stk_numbers.specs.Conditions.{violates}
use Rattle.stk_numbers.proofs.Wrapping.{wrap_stays}

no_break : (s b : Bool) → s ≡ true → (s && not b) ≡ false → b ≡ true
no_break true true signed none = refl
no_break true false signed none = cc
no_break false b signed none = cc

-- where no overflow is, a sum, a difference and a product of a signed kind are exact
pub sum_exact : (k : IntKind) (x y : ℤ) → is_signed k ≡ true → violates ub.Overflow Add k x y ≡ false → arith Add k x y ≡ exact Add k x y
sum_exact k x y signed none = wrap_stays k (exact Add k x y) (no_break (is_signed k) (fits k (exact Add k x y)) signed none)

pub difference_exact : (k : IntKind) (x y : ℤ) → is_signed k ≡ true → violates ub.Overflow Sub k x y ≡ false → arith Sub k x y ≡ exact Sub k x y
difference_exact k x y signed none = wrap_stays k (exact Sub k x y) (no_break (is_signed k) (fits k (exact Sub k x y)) signed none)

pub product_exact : (k : IntKind) (x y : ℤ) → is_signed k ≡ true → violates ub.Overflow Mul k x y ≡ false → arith Mul k x y ≡ exact Mul k x y
product_exact k x y signed none = wrap_stays k (exact Mul k x y) (no_break (is_signed k) (fits k (exact Mul k x y)) signed none)

-- the common kind does not depend on the order of the operands
pub common_either : (a b : IntKind) → common a b ≡ common b a
common_either kind.Bool kind.Bool = refl
common_either kind.Bool kind.Char = refl
common_either kind.Bool kind.SChar = refl
common_either kind.Bool kind.UChar = refl
common_either kind.Bool kind.Short = refl
common_either kind.Bool kind.UShort = refl
common_either kind.Bool kind.Int = refl
common_either kind.Bool kind.UInt = refl
common_either kind.Bool kind.Long = refl
common_either kind.Bool kind.ULong = refl
common_either kind.Bool kind.LLong = refl
common_either kind.Bool kind.ULLong = refl
common_either kind.Char kind.Bool = refl
common_either kind.Char kind.Char = refl
common_either kind.Char kind.SChar = refl
common_either kind.Char kind.UChar = refl
common_either kind.Char kind.Short = refl
common_either kind.Char kind.UShort = refl
common_either kind.Char kind.Int = refl
common_either kind.Char kind.UInt = refl
common_either kind.Char kind.Long = refl
common_either kind.Char kind.ULong = refl
common_either kind.Char kind.LLong = refl
common_either kind.Char kind.ULLong = refl
common_either kind.SChar kind.Bool = refl
common_either kind.SChar kind.Char = refl
common_either kind.SChar kind.SChar = refl
common_either kind.SChar kind.UChar = refl
common_either kind.SChar kind.Short = refl
common_either kind.SChar kind.UShort = refl
common_either kind.SChar kind.Int = refl
common_either kind.SChar kind.UInt = refl
common_either kind.SChar kind.Long = refl
common_either kind.SChar kind.ULong = refl
common_either kind.SChar kind.LLong = refl
common_either kind.SChar kind.ULLong = refl
common_either kind.UChar kind.Bool = refl
common_either kind.UChar kind.Char = refl
common_either kind.UChar kind.SChar = refl
common_either kind.UChar kind.UChar = refl
common_either kind.UChar kind.Short = refl
common_either kind.UChar kind.UShort = refl
common_either kind.UChar kind.Int = refl
common_either kind.UChar kind.UInt = refl
common_either kind.UChar kind.Long = refl
common_either kind.UChar kind.ULong = refl
common_either kind.UChar kind.LLong = refl
common_either kind.UChar kind.ULLong = refl
common_either kind.Short kind.Bool = refl
common_either kind.Short kind.Char = refl
common_either kind.Short kind.SChar = refl
common_either kind.Short kind.UChar = refl
common_either kind.Short kind.Short = refl
common_either kind.Short kind.UShort = refl
common_either kind.Short kind.Int = refl
common_either kind.Short kind.UInt = refl
common_either kind.Short kind.Long = refl
common_either kind.Short kind.ULong = refl
common_either kind.Short kind.LLong = refl
common_either kind.Short kind.ULLong = refl
common_either kind.UShort kind.Bool = refl
common_either kind.UShort kind.Char = refl
common_either kind.UShort kind.SChar = refl
common_either kind.UShort kind.UChar = refl
common_either kind.UShort kind.Short = refl
common_either kind.UShort kind.UShort = refl
common_either kind.UShort kind.Int = refl
common_either kind.UShort kind.UInt = refl
common_either kind.UShort kind.Long = refl
common_either kind.UShort kind.ULong = refl
common_either kind.UShort kind.LLong = refl
common_either kind.UShort kind.ULLong = refl
common_either kind.Int kind.Bool = refl
common_either kind.Int kind.Char = refl
common_either kind.Int kind.SChar = refl
common_either kind.Int kind.UChar = refl
common_either kind.Int kind.Short = refl
common_either kind.Int kind.UShort = refl
common_either kind.Int kind.Int = refl
common_either kind.Int kind.UInt = refl
common_either kind.Int kind.Long = refl
common_either kind.Int kind.ULong = refl
common_either kind.Int kind.LLong = refl
common_either kind.Int kind.ULLong = refl
common_either kind.UInt kind.Bool = refl
common_either kind.UInt kind.Char = refl
common_either kind.UInt kind.SChar = refl
common_either kind.UInt kind.UChar = refl
common_either kind.UInt kind.Short = refl
common_either kind.UInt kind.UShort = refl
common_either kind.UInt kind.Int = refl
common_either kind.UInt kind.UInt = refl
common_either kind.UInt kind.Long = refl
common_either kind.UInt kind.ULong = refl
common_either kind.UInt kind.LLong = refl
common_either kind.UInt kind.ULLong = refl
common_either kind.Long kind.Bool = refl
common_either kind.Long kind.Char = refl
common_either kind.Long kind.SChar = refl
common_either kind.Long kind.UChar = refl
common_either kind.Long kind.Short = refl
common_either kind.Long kind.UShort = refl
common_either kind.Long kind.Int = refl
common_either kind.Long kind.UInt = refl
common_either kind.Long kind.Long = refl
common_either kind.Long kind.ULong = refl
common_either kind.Long kind.LLong = refl
common_either kind.Long kind.ULLong = refl
common_either kind.ULong kind.Bool = refl
common_either kind.ULong kind.Char = refl
common_either kind.ULong kind.SChar = refl
common_either kind.ULong kind.UChar = refl
common_either kind.ULong kind.Short = refl
common_either kind.ULong kind.UShort = refl
common_either kind.ULong kind.Int = refl
common_either kind.ULong kind.UInt = refl
common_either kind.ULong kind.Long = refl
common_either kind.ULong kind.ULong = refl
common_either kind.ULong kind.LLong = refl
common_either kind.ULong kind.ULLong = refl
common_either kind.LLong kind.Bool = refl
common_either kind.LLong kind.Char = refl
common_either kind.LLong kind.SChar = refl
common_either kind.LLong kind.UChar = refl
common_either kind.LLong kind.Short = refl
common_either kind.LLong kind.UShort = refl
common_either kind.LLong kind.Int = refl
common_either kind.LLong kind.UInt = refl
common_either kind.LLong kind.Long = refl
common_either kind.LLong kind.ULong = refl
common_either kind.LLong kind.LLong = refl
common_either kind.LLong kind.ULLong = refl
common_either kind.ULLong kind.Bool = refl
common_either kind.ULLong kind.Char = refl
common_either kind.ULLong kind.SChar = refl
common_either kind.ULLong kind.UChar = refl
common_either kind.ULLong kind.Short = refl
common_either kind.ULLong kind.UShort = refl
common_either kind.ULLong kind.Int = refl
common_either kind.ULLong kind.UInt = refl
common_either kind.ULLong kind.Long = refl
common_either kind.ULLong kind.ULong = refl
common_either kind.ULLong kind.LLong = refl
common_either kind.ULLong kind.ULLong = refl

-- How wide promoted and common kinds are (C11 6.3.1.1p2, 6.3.1.8).
use Rattle.std.specs.Prelude.{◌≡◌, false, max}
use Rattle.stk_ctype.specs.declared.kind.IntKind.{IntKind}
use Rattle.stk_numbers.specs.Kinds.{width_of, is_bool, promote, common}

-- a promoted kind has at least the width of an `int`, and that of its operand; a common kind the greatest of that of an
-- `int` and those of both operands; and neither is `_Bool`
pub record KindsAreWide : Type 0 where
  pub promoted_width : (k : IntKind) → width_of (promote k) ≡ max (width_of k) 32
  pub promoted_number : (k : IntKind) → is_bool (promote k) ≡ false
  pub common_width : (a b : IntKind) → width_of (common a b) ≡ max (max (width_of a) (width_of b)) 32
  pub common_number : (a b : IntKind) → is_bool (common a b) ≡ false

-- A converted number is in the range of its kind.
use Rattle.std.proofs.Common.{◌≡◌, ℤ, ap, ◌∙◌}
use Rattle.std.specs.Prelude.{IsTrue}
use Rattle.stk_ctype.specs.declared.kind.IntKind.{IntKind}
use Rattle.stk_numbers.specs.Kinds.{fits, wrap}
use Rattle.stk_numbers.proofs.Wrapping.{wrap_in_range}

pub in_range : (k : IntKind) (z r : ℤ) → r ≡ wrap k z → IsTrue (fits k r)
in_range k z r e = ap (fits k) e ∙ wrap_in_range k z

-- What a signature of the code shows.
use Rattle.std.proofs.Common.{ℕ, ◌≡◌, ◌+◌, List, [], ◌∷◌, length, map, refl, ap, ◌∙◌, add-one}
use Rattle.stk_ctype.specs.declared.ctype.CType.{CType}
use Rattle.stk_ctype.specs.Types.{row_of, type_of}
use Rattle.stk_typing.specs.Calls.{parameter_count}

pub count_row : (ts : List CType) → parameter_count (row_of (map type_of ts)) ≡ length ts
count_row [] = refl
count_row (t ∷ ts) = ap (λ (n : ℕ). n + 1) (count_row ts) ∙ add-one (length ts)

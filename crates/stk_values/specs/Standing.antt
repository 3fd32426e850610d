-- Which number of a kind bits stand for.
use Rattle.std.specs.Prelude.{ℕ, ℤ}
use Rattle.stk_ctype.specs.declared.kind.IntKind.{IntKind}
use Rattle.stk_numbers.specs.Kinds.{width_of, is_signed, decoded}

-- the number of a kind that has these bits
abbrev pub stands : IntKind → ℕ → ℤ
stands k n = decoded (is_signed k) (width_of k) n

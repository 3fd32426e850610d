-- Rows of gates that follow one another, and numbers that are extended by their sign.
use Rattle.std.specs.Prelude.{ℕ, zero, suc, ◌+◌, ◌-◌, ◌*◌, ◌^◌, List, [], ◌∷◌, if◌then◌else◌}
use Rattle.stk_gates.specs.declared.edge.Edge.{Edge}
use Rattle.stk_arith.specs.Shifts.{is_negative}

-- the edges of so many gates from one on
abbrev pub row_from : ℕ → ℕ → List Edge
row_from first zero = []
row_from first (suc n) = record { 0 = 2 * first } ∷ row_from (first + 1) n

-- the number of w bits with its highest bit copied in front, up to v bits
abbrev pub extended : ℕ → ℕ → ℕ → ℕ
extended w v n = if is_negative w n then n + (2 ^ v - 2 ^ w) else n

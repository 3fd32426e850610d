-- Long division, place by place.
use Rattle.std.specs.Prelude.{◌≡◌, ℕ, ◌+◌, ◌*◌, ◌<◌, ◌≤◌, Bool, false, List, length, drop, nat_lt, slice_index_or}
use Rattle.stk_gates.specs.declared.edge.Edge.{Edge}
use Rattle.stk_gates.specs.Edges.{edge_value}
use Rattle.stk_arith.specs.Rows.{bit, number}

-- the edge at each place, and the one behind the last, says whether some place of the row from there on is true
abbrev pub AreTails : (ℕ → Bool) → List Edge → List Edge → Type 0
AreTails values row tails = (i : ℕ) (d : Edge) → i ≤ length row → edge_value values (slice_index_or tails i d) ≡ nat_lt 0 (number values (drop i row))

-- b was taken off x where it isn't larger, as t tells
pub record IsTaken (x b : ℕ) (t : Bool) (rest : ℕ) : Type 0 where
  pub took : rest + bit t * b ≡ x
  pub short : t ≡ false → x < b

-- a quotient and what is left, which is below b unless b is 0
pub record IsDivided (a b quotient rest : ℕ) : Type 0 where
  pub whole : a ≡ quotient * b + rest
  pub less : 0 < b → rest < b

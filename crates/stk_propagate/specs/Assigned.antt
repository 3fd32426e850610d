-- True literals in order, with their reasons.
use Rattle.std.specs.Prelude.{◌≡◌, ℕ, ◌<◌, List, length, take, slice_index_or, Option}
use Rattle.stk_clauses.specs.declared.literal.Lit.{Lit}
use Rattle.stk_clauses.specs.Literals.{AreBelow}
use Rattle.stk_clauses.specs.Propagation.{IsOpen}

-- the true literals over the variables below vars, in the order in which they became true, and the reason of each: the
-- number of a clause, if it has one
pub record Assigned : Type 0 where
  pub vars : ℕ
  pub literals : List Lit
  pub reasons : List (Option ℕ)

-- each literal was unassigned when it became true
abbrev pub AreFresh : List Lit → Type 0
AreFresh t = (k : ℕ) (d : Lit) → k < length t → IsOpen (take k t) (slice_index_or t k d)

-- each literal has a reason entry and a variable below vars, and was unassigned when it became true
pub record IsAssigned (a : Assigned) : Type 0 where
  pub paired : length a.reasons ≡ length a.literals
  pub within : AreBelow a.vars a.literals
  pub fresh : AreFresh a.literals

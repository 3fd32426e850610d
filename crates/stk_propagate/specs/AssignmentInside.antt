-- What an assignment's fields hold.
use Rattle.std.specs.Prelude.{◌≡◌, ℕ, ◌<◌, ◌≤◌, ◌*◌, ◌/◌, Bool, true, false, List, length, slice_index, slice_index_or, Option}
use Rattle.std.specs.List.{Contains, count_by, sum_by}
use Rattle.std.specs.Vec.{vec_capacity}
use Rattle.stk_clauses.specs.declared.literal.Lit.{Lit}
use Rattle.stk_propagate.specs.declared.assignment.Assignment.TheInside.{Inside}
use Rattle.stk_propagate.specs.Assigned.{Assigned, IsAssigned}
use Rattle.stk_propagate.specs.Trailed.{one_if_assumed, level_of}

abbrev pub seen_as : Inside → Assigned
seen_as f = record { vars = f.vars; literals = f.literals.items; reasons = f.reasons.items }

-- exactly the literals of t are true
pub record AreTruths (truth : List Bool) (t : List Lit) : Type 0 where
  pub known : (l : Lit) → Contains t l → slice_index_or truth l.0 false ≡ true
  pub back : (l : Lit) → slice_index_or truth l.0 false ≡ true → Contains t l

-- each variable that has a value has the place of its literal
abbrev pub ArePlaces : List ℕ → List Lit → Type 0
ArePlaces places t = (k : ℕ) (d : Lit) → k < length t → slice_index places ((slice_index_or t k d).0 / 2) ≡ k

-- each variable that has a value has the level of its literal
abbrev pub HaveLevels : List ℕ → List Lit → List (Option ℕ) → Type 0
HaveLevels levels t reasons = (k : ℕ) (d : Lit) → k < length t → slice_index levels ((slice_index_or t k d).0 / 2) ≡ level_of reasons k

-- the tables fit the list of true literals, and there is room for all literals
pub record IsInside (f : Inside) : Type 0 where
  pub facts : IsAssigned (seen_as f)
  pub sized : length f.truth.items ≡ 2 * f.vars
  pub truths : AreTruths f.truth.items f.literals.items
  pub counted : count_by (λ b. b) f.truth.items ≡ length f.literals.items
  pub literal_room : 2 * f.vars ≤ vec_capacity f.literals
  pub reason_room : 2 * f.vars ≤ vec_capacity f.reasons
  pub placed_sized : length f.places.items ≡ f.vars
  pub placed : ArePlaces f.places.items f.literals.items
  pub leveled_sized : length f.levels.items ≡ f.vars
  pub leveled : HaveLevels f.levels.items f.literals.items f.reasons.items
  pub deep : f.depth ≡ sum_by one_if_assumed f.reasons.items

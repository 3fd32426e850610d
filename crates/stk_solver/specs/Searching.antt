-- What holds of a search between two steps.
use Rattle.std.specs.Prelude.{◌≡◌, ◌⊎◌, ℕ, ◌<◌, ◌+◌, ◌*◌, ◌^◌, ◌++◌, List, [], ◌∷◌, length, drop}
use Rattle.std.specs.List.{Contains}
use Rattle.stk_clauses.specs.declared.literal.Lit.{Lit}
use Rattle.stk_clauses.specs.declared.derivation.Derived.{Derived}
use Rattle.stk_clauses.specs.Derivations.{clauses_of_steps, AreSteps, AreNew}
use Rattle.stk_propagate.specs.Assigned.{IsAssigned}
use Rattle.stk_propagate.specs.Fitting.{Fits}
use Rattle.stk_solver.specs.Learnt.{AreLevels}
use Rattle.stk_solver.specs.declared.search.Search.{Search}

-- the clauses with the hints of a log
abbrev pub steps_of : List (List ℕ) → List (List Lit) → List Derived
steps_of [] cs = []
steps_of (hints ∷ log) [] = []
steps_of (hints ∷ log) (c ∷ cs) = record { clause = c; hints = hints } ∷ steps_of log cs

-- the learnt clauses, which stand behind the given ones, with their hints
abbrev pub learnt_steps : Search → List (List Lit) → List Derived
learnt_steps s given = steps_of s.log.items (drop (length given) s.store)

-- the store has the given clauses and the learnt ones, which are as many as the log's hints, each by its hints and new;
-- the trail fits it; and with a level, no clause is empty
pub record IsSearch (s : Search) (given : List (List Lit)) : Type 0 where
  pub clauses : s.store ≡ given ++ clauses_of_steps (learnt_steps s given)
  pub logged : length s.store ≡ length given + length s.log.items
  pub small : s.vars < 2 ^ 31
  pub steps : AreSteps s.vars given (learnt_steps s given)
  pub fresh : AreNew given (learnt_steps s given)
  pub fits : Fits s.trail s.store
  pub assigned : IsAssigned s.trail.assigned
  pub same_vars : s.trail.assigned.vars ≡ s.vars
  pub levels : AreLevels s.trail.assigned s.levels.items
  pub full : 0 < length s.levels.items → Contains s.store [] → ⊥
  pub analysed : s.analysis ≡ s.vars

-- each variable has a value
abbrev pub AreAllAssigned : List Lit → ℕ → Type 0
AreAllAssigned t vars = (v : ℕ) → v < vars → Contains t (record { 0 = 2 * v }) ⊎ Contains t (record { 0 = 2 * v + 1 })

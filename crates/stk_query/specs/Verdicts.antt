-- What a verdict on a goal says.
use Rattle.std.specs.Prelude.{ℕ, ◌+◌, ◌-◌, ◌^◌, ◌<◌, ◌≤◌, Bool, true, false, length, sum, min}
use Rattle.stk_clauses.specs.Derivations.{IsRefutation, IsSpentLog}
use Rattle.stk_terms.specs.Terms.{Stored}
use Rattle.stk_terms.specs.Ordered.{IsFirst}
use Rattle.stk_goal_clauses.specs.Standing.{StandsForGoal, IsWithinBound}
use Rattle.stk_goal_clauses.specs.Laws.{MakesOne, IsNever}
use Rattle.stk_query.specs.declared.verdict.Verdict.{Verdict}
use Rattle.stk_query.specs.declared.verdict.Verdict.TheVariants.{Satisfied, Tried, Refuted, Undecided}

-- the verdict says that the goal was given up
abbrev pub is_undecided : Verdict → Bool
is_undecided (Satisfied residues) = false
is_undecided Tried = false
is_undecided (Refuted list derivation) = false
is_undecided (Undecided list log) = true

-- the verdict says that no inputs make the goal 1
abbrev pub is_no : Verdict → Bool
is_no (Satisfied residues) = false
is_no Tried = true
is_no (Refuted list derivation) = true
is_no (Undecided list log) = false

-- what a verdict within a budget says of the goal: these inputs make it 1, and of at most 16 bits they are the first
-- that do; none of at most 16 bits do; or the inputs have more bits, and clauses that stand for the goal are refuted
-- within the budget, or have a spent log of it
abbrev pub IsVerdict : Stored → ℕ → ℕ → Verdict → Type 0
IsVerdict s i budget (Satisfied residues) = MakesOne s i residues.numbers × (sum s.inputs ≤ 16 → IsFirst s i residues.numbers)
IsVerdict s i budget Tried = (sum s.inputs ≤ 16) × IsNever s i
IsVerdict s i budget (Refuted list derivation) = (16 < sum s.inputs) × StandsForGoal s i list × IsWithinBound s i list × IsRefutation list.vars list.store derivation.steps × (length derivation.steps ≤ budget + 1)
IsVerdict s i budget (Undecided list log) = (16 < sum s.inputs) × StandsForGoal s i list × IsWithinBound s i list × IsSpentLog list.vars list.store budget log.steps

-- a count of goals that were given up, where it counts one more unless it stands at the last value of a u64
abbrev pub one_more : ℕ → ℕ
one_more n = min (n + 1) (2 ^ 64 - 1)

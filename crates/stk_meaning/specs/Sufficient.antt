-- Sets of conditions that suffice for a candidate: wherever it is hit, one of them has been violated before; in path
-- runs, and in every execution.
use Rattle.std.specs.Prelude.{ℕ, List, ℤ}
use Rattle.stk_tree.specs.Syntax.{FunctionTree}
use Rattle.stk_numbers.specs.declared.conditions.Candidate.{Candidate}
use Rattle.stk_numbers.specs.declared.conditions.Condition.{Condition}
use Rattle.stk_numbers.specs.declared.conditions.Kinds.{Kinds}
use Rattle.stk_meaning.specs.Typings.{Typing}
use Rattle.stk_meaning.specs.Memory.{Memory}
use Rattle.stk_meaning.specs.Paths.{path}
use Rattle.stk_meaning.specs.Executions.{Answer, ExecutionStart, execution}
use Rattle.stk_meaning.specs.Maps.{IsValid, IsValidStart}
use Rattle.stk_meaning.specs.Hits.{HitsFree}

module _ (ty : Typing) (without : Kinds) (f : FunctionTree) (c : Candidate) where
  -- in each valid path run no place that hits the candidate is free of the set
  pub record IsPathSufficient (set : List Condition) : Type 0 where
    pub by : (numbers : List ℤ) → IsValid ty without f numbers → HitsFree set c (path ty without f numbers) → ⊥

  -- the same in every execution, for every start, memory, list of answers and bound on the turns of loops
  pub record IsSufficient (set : List Condition) : Type 0 where
    pub by : (start : ExecutionStart) (memory : Memory) (answers : List Answer) (n : ℕ) → IsValidStart ty without f start → HitsFree set c (execution ty without f start memory answers n) → ⊥

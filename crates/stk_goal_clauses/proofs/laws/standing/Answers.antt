use Rattle.stk_goal_clauses.proofs.Goals.{satisfied, never}
use Rattle.stk_goal_clauses.proofs.laws.standing.Goals as goal

pub returns : goal.returns
returns c = record { satisfied = satisfied; never = never }

use Rattle.stk_goal_laws.proofs.Queries.{goals_of_queries}
use Rattle.stk_goal_laws.proofs.goals.goals_are_of_queries.Goals as goal

pub returns : goal.returns
returns c = goals_of_queries

use Rattle.stk_goals.proofs.Little.{goals_add_little}
use Rattle.stk_goals.proofs.laws.goals_add_little.Goals as goal

pub returns : goal.returns
returns c = goals_add_little

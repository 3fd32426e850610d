use Rattle.stk_goals.proofs.Searched.{keys_are_there}
use Rattle.stk_goals.proofs.search_laws.keys_are_there.Goals as goal

pub returns : goal.returns
returns c = keys_are_there

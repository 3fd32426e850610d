use Rattle.stk_goals.proofs.Searched.{accepted_functions_are_searched}
use Rattle.stk_goals.proofs.search_laws.accepted_functions_are_searched.Goals as goal

pub returns : goal.returns
returns c = accepted_functions_are_searched

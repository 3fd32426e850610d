use Rattle.stk_goals.proofs.Searched.{typed_functions_are_searched}
use Rattle.stk_goals.proofs.search_laws.typed_functions_are_searched.Goals as goal

pub returns : goal.returns
returns c = typed_functions_are_searched

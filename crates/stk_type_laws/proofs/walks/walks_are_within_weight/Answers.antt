use Rattle.stk_type_laws.proofs.WholeCosts.{walks_are_within}
use Rattle.stk_type_laws.proofs.walks.walks_are_within_weight.Goals as goal

pub returns : goal.returns
returns c = walks_are_within

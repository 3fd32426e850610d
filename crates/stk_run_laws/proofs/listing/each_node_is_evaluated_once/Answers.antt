use Rattle.stk_run_laws.proofs.OnceLaws.{each_node_is_evaluated_once}
use Rattle.stk_run_laws.proofs.listing.each_node_is_evaluated_once.Goals as goal

pub returns : goal.returns
returns c = each_node_is_evaluated_once

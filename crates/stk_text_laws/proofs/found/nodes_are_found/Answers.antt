use Rattle.stk_text_laws.proofs.Nodes.{all_found}
use Rattle.stk_text_laws.proofs.found.nodes_are_found.Goals as goal

pub returns : goal.returns
returns c = all_found

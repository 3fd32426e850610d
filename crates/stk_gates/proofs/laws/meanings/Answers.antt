use Rattle.stk_gates.proofs.Decided.{every_input, inputs_decide, older_edges}
use Rattle.stk_gates.proofs.laws.meanings.Goals as goal

pub returns : goal.returns
returns c = record { gives = every_input; decide = inputs_decide; older = older_edges }

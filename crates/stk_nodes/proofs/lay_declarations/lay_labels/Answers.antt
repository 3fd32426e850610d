use Rattle.std.proofs.Common.{arith}
use Rattle.std.proofs.lemmas.Grind.{common_steps}
use Rattle.stk_nodes.proofs.Chains.{chained_set}
use Rattle.stk_nodes.proofs.lay_declarations.lay_labels.Goals as goal

pub loop-i-preserved : goal.loop-i-preserved
loop-i-preserved c = record {
  tree = grind (arith, common_steps, chained_set);
  number = grind (arith, common_steps);
  token = grind (arith, common_steps);
}

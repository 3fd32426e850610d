use Rattle.stk_type_laws.proofs.KindedTrees.{accepted_trees_are_kinded}
use Rattle.stk_type_laws.proofs.kinded_trees.accepted_trees_are_kinded.Goals as goal

pub returns : goal.returns
returns c = accepted_trees_are_kinded

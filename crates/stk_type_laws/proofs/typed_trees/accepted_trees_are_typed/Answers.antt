use Rattle.stk_type_laws.proofs.Whole.{accepted_trees_are_typed}
use Rattle.stk_type_laws.proofs.typed_trees.accepted_trees_are_typed.Goals as goal

pub returns : goal.returns
returns c = accepted_trees_are_typed

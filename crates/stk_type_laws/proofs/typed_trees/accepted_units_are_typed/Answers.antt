use Rattle.stk_type_laws.proofs.Whole.{accepted_units_are_typed}
use Rattle.stk_type_laws.proofs.typed_trees.accepted_units_are_typed.Goals as goal

pub returns : goal.returns
returns c = accepted_units_are_typed

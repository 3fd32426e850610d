use Rattle.stk_type_laws.proofs.TreesHaveBits.{accepted_trees_have_bits}
use Rattle.stk_type_laws.proofs.typed_bits.accepted_trees_have_bits.Goals as goal

pub returns : goal.returns
returns c = accepted_trees_have_bits

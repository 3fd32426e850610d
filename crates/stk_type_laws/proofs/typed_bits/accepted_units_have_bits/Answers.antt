use Rattle.stk_type_laws.proofs.TreesHaveBits.{accepted_units_have_bits}
use Rattle.stk_type_laws.proofs.typed_bits.accepted_units_have_bits.Goals as goal

pub returns : goal.returns
returns c = accepted_units_have_bits

use Rattle.std.proofs.Common.{ap, arith}
use Rattle.stk_values.specs.Charges.{move_charge}
use Rattle.stk_walking.proofs.operations.moved_address.Goals as goal

pub returns-clause-charge : goal.returns-clause-charge
returns-clause-charge g c = omega (arith, c.in_ok-address.ensures.charge, c.in_ok-found.ensures.charge, ap move_charge c.bytes-bytes.ensures.is)

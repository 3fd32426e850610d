use Rattle.std.proofs.Common.{ap, arith}
use Rattle.stk_values.specs.Charges.{distance_charge}
use Rattle.stk_walking.proofs.operations.measured.Goals as goal

pub returns-clause-charge : goal.returns-clause-charge
returns-clause-charge g c = omega (arith, c.in_ok-x.ensures.charge, c.in_ok-y.ensures.charge, c.in_ok-found.ensures.charge, ap distance_charge c.bytes-bytes.ensures.is)

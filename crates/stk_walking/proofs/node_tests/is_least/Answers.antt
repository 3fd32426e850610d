use Rattle.std.proofs.Common.{arith}
use Rattle.stk_walking.proofs.node_tests.is_least.Goals as goal

pub returns-clause-charge : goal.returns-clause-charge
returns-clause-charge g c = omega (arith, c.in_ok-lowest.ensures.charge, c.in_ok-found.ensures.charge)

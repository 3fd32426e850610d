use Rattle.std.proofs.Common.{arith}
use Rattle.stk_walk.proofs.validity.lies_where.Goals as goal

pub returns-clause-charge : goal.returns-clause-charge
returns-clause-charge g c = omega (arith, c.in_ok-test.ensures.charge, c.in_ok-both.ensures.charge)

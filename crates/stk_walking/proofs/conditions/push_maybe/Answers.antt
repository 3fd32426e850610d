use Rattle.std.proofs.Common.{arith}
use Rattle.stk_walking.proofs.conditions.push_maybe.Goals as goal

pub returns-in-None-clause-charge : goal.returns-in-None-clause-charge
returns-in-None-clause-charge g c = rw c.in-None.is (omega arith)

pub returns-in-Some-clause-charge : goal.returns-in-Some-clause-charge
returns-in-Some-clause-charge g c = rw c.in-Some.is c.push_test.ensures.charge

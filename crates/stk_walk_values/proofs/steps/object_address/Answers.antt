use Rattle.stk_walking.proofs.Costing.{on_ok_all}
use Rattle.stk_walk_values.proofs.steps.object_address.Goals as goal

pub returns-in-Register-clause-charge : goal.returns-in-Register-clause-charge
returns-in-Register-clause-charge g c = on_ok_all c.zero.result c.zero.ensures.charge

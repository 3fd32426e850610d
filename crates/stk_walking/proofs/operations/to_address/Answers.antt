use Rattle.stk_walking.proofs.Costing.{no_charge}
use Rattle.stk_walking.proofs.operations.to_address.Goals as goal

pub returns-clause-charge : goal.returns-clause-charge
returns-clause-charge g c = no_charge _ _ c.in_ok-found.ensures.charge

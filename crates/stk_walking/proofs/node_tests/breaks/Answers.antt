use Rattle.stk_walking.proofs.Costing.{on_ok_all}
use Rattle.stk_walking.proofs.node_tests.breaks.Goals as goal

pub returns-in-Shift-clause-charge : goal.returns-in-Shift-clause-charge
returns-in-Shift-clause-charge g c = rw c.in-Shift.is (on_ok_all c.breaks_shift.result c.breaks_shift.ensures.charge)

pub returns-in-Bounds-clause-charge : goal.returns-in-Bounds-clause-charge
returns-in-Bounds-clause-charge g c = rw c.in-Bounds.is (on_ok_all c.breaks_bounds.result c.breaks_bounds.ensures.charge)

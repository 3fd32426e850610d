use Rattle.std.proofs.Common.{◌≤◌}
use Rattle.stk_gates.specs.Tables.{gate_count}
use Rattle.stk_cnf.specs.Marks.{AreMarked}
use Rattle.stk_cnf.proofs.depending.depending.Given as goal

abbrev pub invariant-loop-gate : goal.invariant-loop-gate
invariant-loop-gate l = record {
  marked : AreMarked l.gates l.goal l.marks l.gate;
  within : l.gate ≤ gate_count l.gates;
}

abbrev pub decreases-loop-gate : goal.decreases-loop-gate
decreases-loop-gate l = l.gate

use Rattle.std.proofs.Common.{◌-◌, ◌≤◌}
use Rattle.stk_lex.specs.Stands.{IsLine}
use Rattle.stk_lex.proofs.placing.along.Given as goal

abbrev pub invariant-loop-at : goal.invariant-loop-at
invariant-loop-at l = record {
  within : (l.from ≤ l.at) × (l.at ≤ l.to);
  line : IsLine l.bytes l.at l.here;
}

abbrev pub decreases-loop-at : goal.decreases-loop-at
decreases-loop-at l = l.to - l.at

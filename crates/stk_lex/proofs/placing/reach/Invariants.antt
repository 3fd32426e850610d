use Rattle.std.proofs.Common.{◌-◌, ◌≤◌}
use Rattle.stk_lex.specs.Stands.{IsStand}
use Rattle.stk_lex.proofs.placing.reach.Given as goal

abbrev pub invariant-loop-stand : goal.invariant-loop-stand
invariant-loop-stand l = record {
  within : l.stand.at ≤ l.at;
  stand : IsStand l.bytes l.stand;
}

abbrev pub decreases-loop-stand : goal.decreases-loop-stand
decreases-loop-stand l = l.at - l.stand.at

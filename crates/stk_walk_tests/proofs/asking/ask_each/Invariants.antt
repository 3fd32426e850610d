use Rattle.std.proofs.Common.{◌≡◌}
use Rattle.stk_walk_tests.proofs.asking.ask_each.Given as goal

abbrev pub invariant-loop-at : goal.invariant-loop-at
invariant-loop-at g l = l.goals ≡ l.fn.goals

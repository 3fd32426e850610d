use Rattle.std.proofs.Common.{◌≡◌, ◌++◌}
use Rattle.stk_tree.specs.Tokens.{stars}
use Rattle.stk_tree_calls.proofs.punctuators.put_stars.Given as goal

abbrev pub invariant-loop : goal.invariant-loop
invariant-loop l = l.out.items ≡ l.initial.out.items ++ stars l.counter

use Rattle.std.proofs.Common.{◌≡◌, ◌++◌, drop, map}
use Rattle.stk_function_env.specs.Changed.{outer_changes}
use Rattle.stk_function_env.proofs.changes.outer_changes.Given as goal

abbrev pub invariant-loop-change : goal.invariant-loop-change
invariant-loop-change l = l.out.items ++ outer_changes l.own (drop l.change-index l.inner) ≡ l.initial.out.items ++ outer_changes l.own l.inner

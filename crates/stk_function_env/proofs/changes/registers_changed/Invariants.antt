use Rattle.std.proofs.Common.{◌≡◌, ◌++◌, drop, map}
use Rattle.stk_function_env.specs.Changed.{registers_changed}
use Rattle.stk_function_env.proofs.changes.registers_changed.Given as goal

abbrev pub invariant-loop-change : goal.invariant-loop-change
invariant-loop-change l = l.out.items ++ registers_changed (drop l.change-index l.list) ≡ registers_changed l.list

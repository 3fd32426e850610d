use Rattle.std.proofs.Common.{◌≡◌, ◌++◌, drop, map}
use Rattle.stk_tree.specs.View.{view_parameter, parameters}
use Rattle.stk_function_types.specs.Nodes.{typing_in}
use Rattle.stk_function_env.specs.Listed.{parameters_registers}
use Rattle.stk_walk.proofs.registers.registers_among.Given as goal

abbrev pub invariant-loop-p : goal.invariant-loop-p
invariant-loop-p l = l.out.items ++ parameters_registers (typing_in l.types) (parameters (map view_parameter (drop l.p-index l.list))) ≡ parameters_registers (typing_in l.types) (parameters (map view_parameter l.list))

use Rattle.std.proofs.Common.{◌≡◌, ◌++◌, drop, map}
use Rattle.stk_tree.specs.View.{view_parameter, parameters}
use Rattle.stk_function_types.specs.Nodes.{typing_in}
use Rattle.stk_function_env.specs.Listed.{register_parameter_keys}
use Rattle.stk_function_env.specs.Infos.{info_in}
use Rattle.stk_function_env.proofs.keys.register_parameter_keys.Given as goal

abbrev pub invariant-loop-p : goal.invariant-loop-p
invariant-loop-p l = map info_in l.out.items ++ register_parameter_keys (typing_in l.types) (parameters (map view_parameter (drop l.p-index l.list))) ≡ map info_in l.initial.out.items ++ register_parameter_keys (typing_in l.types) (parameters (map view_parameter l.list))

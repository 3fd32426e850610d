use Rattle.std.proofs.Common.{◌≡◌, ◌++◌, drop, map}
use Rattle.stk_function_types.specs.Nodes.{typing_in}
use Rattle.stk_function_env.specs.Listed.{keys_kept}
use Rattle.stk_function_env.specs.Infos.{info_in}
use Rattle.stk_function_env.proofs.keys.kept_among.Given as goal

abbrev pub invariant-loop-info : goal.invariant-loop-info
invariant-loop-info l = l.out.items ++ keys_kept (typing_in l.types) (map info_in (drop l.info-index l.keys)) ≡ keys_kept (typing_in l.types) (map info_in l.keys)

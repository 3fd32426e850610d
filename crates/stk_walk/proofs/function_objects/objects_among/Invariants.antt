use Rattle.std.proofs.Common.{◌≡◌, ◌++◌, drop, map}
use Rattle.stk_function_types.specs.Nodes.{typing_in}
use Rattle.stk_meaning.specs.Keys.{objects_in}
use Rattle.stk_function_env.specs.Infos.{info_in}
use Rattle.stk_walk.specs.Validity.{walk_object}
use Rattle.stk_walk.proofs.function_objects.objects_among.Given as goal

abbrev pub invariant-loop-info : goal.invariant-loop-info
invariant-loop-info l = l.out.items ++ map (walk_object l.kept) (objects_in (typing_in l.types) (map info_in (drop l.info-index l.keys))) ≡ map (walk_object l.kept) (objects_in (typing_in l.types) (map info_in l.keys))

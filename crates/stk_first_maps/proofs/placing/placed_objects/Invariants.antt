use Rattle.std.proofs.Common.{◌≡◌, ◌++◌, drop, map}
use Rattle.stk_meaning.specs.Keys.{objects_in}
use Rattle.stk_meaning.specs.Maps.{addresses_in}
use Rattle.stk_meaning.specs.Paths.{number_under}
use Rattle.stk_function_types.specs.Nodes.{typing_in}
use Rattle.stk_function_env.specs.Infos.{info_in}
use Rattle.stk_first_maps.specs.Placed.{placed_object}
use Rattle.stk_first_maps.proofs.placing.placed_objects.Given as goal

abbrev pub invariant-loop-info : goal.invariant-loop-info
invariant-loop-info l =
    let at = placed_object l.kept (addresses_in (number_under l.mapped.tables.now.places.keys l.mapped.numbers.now)) in
    let ty = typing_in l.mapped.tables.now.places.types in
    l.out.items ++ map at (objects_in ty (map info_in (drop l.info-index l.keys))) ≡ map at (objects_in ty (map info_in l.keys))

use Rattle.std.proofs.Common.{take, map}
use Rattle.stk_meaning.specs.Maps.{AreInRange}
use Rattle.stk_function_env.specs.Infos.{info_in}
use Rattle.stk_first_maps.proofs.mapping.map_of_choice.Given as goal

abbrev pub invariant-loop-info : goal.invariant-loop-info
invariant-loop-info l = AreInRange (map info_in (take l.info-index l.keys)) l.numbers.items

use Rattle.std.proofs.Common.{◌≡◌, drop}
use Rattle.std.specs.List.{list_all}
use Rattle.stk_first_maps.specs.Placed.{is_apart}
use Rattle.stk_first_maps.proofs.placed.is_apart_from.Given as goal

abbrev pub invariant-loop-other : goal.invariant-loop-other
invariant-loop-other l = list_all (is_apart l.object) (drop l.other-index l.all) ≡ list_all (is_apart l.object) l.all

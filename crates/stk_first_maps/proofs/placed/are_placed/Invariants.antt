use Rattle.std.proofs.Common.{◌≡◌, drop}
use Rattle.std.specs.List.{list_all}
use Rattle.stk_first_maps.specs.Placed.{is_placed}
use Rattle.stk_first_maps.proofs.placed.are_placed.Given as goal

abbrev pub invariant-loop-object : goal.invariant-loop-object
invariant-loop-object l = list_all (is_placed l.all) (drop l.object-index l.all) ≡ list_all (is_placed l.all) l.all

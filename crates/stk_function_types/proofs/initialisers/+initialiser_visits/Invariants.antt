use Rattle.std.proofs.Common.{◌≡◌, ◌++◌, drop, map, true}
use Rattle.stk_tree.specs.View.{items, view_item}
use Rattle.stk_meaning.specs.Visits.{items_visits}
use Rattle.stk_function_types.specs.Nodes.{typing_in}
use Rattle.stk_function_types.specs.Visits.{marked_visits, marked_visit}
use Rattle.stk_function_types.proofs.initialisers.+initialiser_visits.Given as goal

abbrev pub invariant-items_visits-loop-x : goal.invariant-items_visits-loop-x
invariant-items_visits-loop-x l = map marked_visit l.out.items ++ marked_visits true (items_visits (typing_in l.types) (items (map view_item (drop l.x-index l.list)))) ≡ map marked_visit l.initial.out.items ++ marked_visits true (items_visits (typing_in l.types) (items (map view_item l.list)))

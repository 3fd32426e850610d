use Rattle.std.proofs.Common.{◌≡◌, ◌++◌, drop, map, true}
use Rattle.stk_tree.specs.View.{designators, view_designator}
use Rattle.stk_meaning.specs.Visits.{designators_visits}
use Rattle.stk_function_types.specs.Nodes.{typing_in}
use Rattle.stk_function_types.specs.Visits.{marked_visits, marked_visit}
use Rattle.stk_function_types.proofs.initialisers.designators_visits.Given as goal

abbrev pub invariant-loop-d : goal.invariant-loop-d
invariant-loop-d l = map marked_visit l.out.items ++ marked_visits true (designators_visits (typing_in l.types) (designators (map view_designator (drop l.d-index l.list)))) ≡ map marked_visit l.initial.out.items ++ marked_visits true (designators_visits (typing_in l.types) (designators (map view_designator l.list)))

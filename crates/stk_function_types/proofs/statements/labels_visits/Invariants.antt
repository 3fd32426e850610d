use Rattle.std.proofs.Common.{◌≡◌, ◌++◌, drop, map, true}
use Rattle.stk_tree.specs.View.{labels, view_label}
use Rattle.stk_meaning.specs.Visits.{labels_visits}
use Rattle.stk_function_types.specs.Nodes.{typing_in}
use Rattle.stk_function_types.specs.Visits.{marked_visits, marked_visit}
use Rattle.stk_function_types.proofs.statements.labels_visits.Given as goal

abbrev pub invariant-loop-x : goal.invariant-loop-x
invariant-loop-x l = map marked_visit l.out.items ++ marked_visits true (labels_visits (typing_in l.types) (labels (map view_label (drop l.x-index l.list)))) ≡ map marked_visit l.initial.out.items ++ marked_visits true (labels_visits (typing_in l.types) (labels (map view_label l.list)))

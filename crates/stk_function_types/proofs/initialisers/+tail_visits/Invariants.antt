use Rattle.std.proofs.Common.{◌≡◌, ◌++◌, drop, map, true}
use Rattle.stk_tree.specs.View.{parameters, view_parameter}
use Rattle.stk_meaning.specs.Visits.{parameters_visits}
use Rattle.stk_function_types.specs.Nodes.{typing_in}
use Rattle.stk_function_types.specs.Visits.{marked_visits, marked_visit}
use Rattle.stk_function_types.proofs.initialisers.+tail_visits.Given as goal

abbrev pub invariant-parameters_visits-loop-p : goal.invariant-parameters_visits-loop-p
invariant-parameters_visits-loop-p l = map marked_visit l.out.items ++ marked_visits true (parameters_visits (typing_in l.types) (parameters (map view_parameter (drop l.p-index l.list)))) ≡ map marked_visit l.initial.out.items ++ marked_visits true (parameters_visits (typing_in l.types) (parameters (map view_parameter l.list)))

use Rattle.std.proofs.Common.{◌≡◌, ◌++◌, drop, map}
use Rattle.stk_tree.specs.View.{expressions, view_expression, dimensions, view_dimension}
use Rattle.stk_meaning.specs.Visits.{arguments_visits, dimensions_visits}
use Rattle.stk_function_types.specs.Nodes.{typing_in}
use Rattle.stk_function_types.specs.Visits.{marked_visits, marked_visit}
use Rattle.stk_function_types.proofs.expressions.+expression_visits.Given as goal

abbrev pub invariant-arguments_visits-loop-e : goal.invariant-arguments_visits-loop-e
invariant-arguments_visits-loop-e l = map marked_visit l.out.items ++ marked_visits l.evaluated (arguments_visits (typing_in l.types) (expressions (map view_expression (drop l.e-index l.list)))) ≡ map marked_visit l.initial.out.items ++ marked_visits l.evaluated (arguments_visits (typing_in l.types) (expressions (map view_expression l.list)))

abbrev pub invariant-dimensions_visits-loop-d : goal.invariant-dimensions_visits-loop-d
invariant-dimensions_visits-loop-d l = map marked_visit l.out.items ++ marked_visits l.evaluated (dimensions_visits (typing_in l.types) (dimensions (map view_dimension (drop l.d-index l.list)))) ≡ map marked_visit l.initial.out.items ++ marked_visits l.evaluated (dimensions_visits (typing_in l.types) (dimensions (map view_dimension l.list)))

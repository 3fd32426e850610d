use Rattle.std.proofs.Common.{◌≡◌, map, drop}
use Rattle.stk_tree.specs.Placed.{arguments_placed, declarators_placed, designators_placed, dimensions_placed, enumerators_placed, items_placed, members_placed, parameters_placed}
use Rattle.stk_tree.specs.View.{declarators, designators, dimensions, enumerators, expressions, items, members, parameters, view_declarator, view_designator, view_dimension, view_enumerator, view_expression, view_item, view_member, view_parameter}
use Rattle.stk_tree_calls.proofs.placed_expressions.+placed.Given as goal

abbrev pub invariant-arguments_placed-loop-x : goal.invariant-arguments_placed-loop-x
invariant-arguments_placed-loop-x l = arguments_placed (expressions (map view_expression (drop l.x-index l.list))) ≡ arguments_placed (expressions (map view_expression l.list))

abbrev pub invariant-dimensions_placed-loop-x : goal.invariant-dimensions_placed-loop-x
invariant-dimensions_placed-loop-x l = dimensions_placed (dimensions (map view_dimension (drop l.x-index l.list))) ≡ dimensions_placed (dimensions (map view_dimension l.list))

abbrev pub invariant-members_placed-loop-x : goal.invariant-members_placed-loop-x
invariant-members_placed-loop-x l = members_placed (members (map view_member (drop l.x-index l.list))) ≡ members_placed (members (map view_member l.list))

abbrev pub invariant-enumerators_placed-loop-x : goal.invariant-enumerators_placed-loop-x
invariant-enumerators_placed-loop-x l = enumerators_placed (enumerators (map view_enumerator (drop l.x-index l.list))) ≡ enumerators_placed (enumerators (map view_enumerator l.list))

abbrev pub invariant-declarators_placed-loop-x : goal.invariant-declarators_placed-loop-x
invariant-declarators_placed-loop-x l = declarators_placed (declarators (map view_declarator (drop l.x-index l.list))) ≡ declarators_placed (declarators (map view_declarator l.list))

abbrev pub invariant-parameters_placed-loop-x : goal.invariant-parameters_placed-loop-x
invariant-parameters_placed-loop-x l = parameters_placed (parameters (map view_parameter (drop l.x-index l.list))) ≡ parameters_placed (parameters (map view_parameter l.list))

abbrev pub invariant-items_placed-loop-x : goal.invariant-items_placed-loop-x
invariant-items_placed-loop-x l = items_placed (items (map view_item (drop l.x-index l.list))) ≡ items_placed (items (map view_item l.list))

abbrev pub invariant-designators_placed-loop-x : goal.invariant-designators_placed-loop-x
invariant-designators_placed-loop-x l = designators_placed (designators (map view_designator (drop l.x-index l.list))) ≡ designators_placed (designators (map view_designator l.list))

use Rattle.std.proofs.Common.{◌≡◌, map, max, drop}
use Rattle.stk_tree.specs.Height.{expressions_height, dimensions_height, members_height, enumerators_height, declarators_height, parameters_height, items_height, designators_height}
use Rattle.stk_tree.specs.View.{expressions, view_expression, dimensions, view_dimension, members, view_member, enumerators, view_enumerator, declarators, view_declarator, parameters, view_parameter, items, view_item, designators, view_designator}
use Rattle.stk_tree_calls.proofs.levels_expressions.+height.Given as goal

abbrev pub invariant-expressions_height-loop-x : goal.invariant-expressions_height-loop-x
invariant-expressions_height-loop-x l = max l.most (expressions_height (expressions (map view_expression (drop l.x-index l.list)))) ≡ expressions_height (expressions (map view_expression l.list))

abbrev pub invariant-dimensions_height-loop-x : goal.invariant-dimensions_height-loop-x
invariant-dimensions_height-loop-x l = max l.most (dimensions_height (dimensions (map view_dimension (drop l.x-index l.list)))) ≡ dimensions_height (dimensions (map view_dimension l.list))

abbrev pub invariant-members_height-loop-x : goal.invariant-members_height-loop-x
invariant-members_height-loop-x l = max l.most (members_height (members (map view_member (drop l.x-index l.list)))) ≡ members_height (members (map view_member l.list))

abbrev pub invariant-enumerators_height-loop-x : goal.invariant-enumerators_height-loop-x
invariant-enumerators_height-loop-x l = max l.most (enumerators_height (enumerators (map view_enumerator (drop l.x-index l.list)))) ≡ enumerators_height (enumerators (map view_enumerator l.list))

abbrev pub invariant-declarators_height-loop-x : goal.invariant-declarators_height-loop-x
invariant-declarators_height-loop-x l = max l.most (declarators_height (declarators (map view_declarator (drop l.x-index l.list)))) ≡ declarators_height (declarators (map view_declarator l.list))

abbrev pub invariant-parameters_height-loop-x : goal.invariant-parameters_height-loop-x
invariant-parameters_height-loop-x l = max l.most (parameters_height (parameters (map view_parameter (drop l.x-index l.list)))) ≡ parameters_height (parameters (map view_parameter l.list))

abbrev pub invariant-items_height-loop-x : goal.invariant-items_height-loop-x
invariant-items_height-loop-x l = max l.most (items_height (items (map view_item (drop l.x-index l.list)))) ≡ items_height (items (map view_item l.list))

abbrev pub invariant-designators_height-loop-x : goal.invariant-designators_height-loop-x
invariant-designators_height-loop-x l = max l.most (designators_height (designators (map view_designator (drop l.x-index l.list)))) ≡ designators_height (designators (map view_designator l.list))

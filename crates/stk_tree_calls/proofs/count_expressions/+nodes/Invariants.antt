use Rattle.std.proofs.Common.{◌≡◌, ◌+◌, map, drop}
use Rattle.stk_tree.specs.Nodes.{expressions_nodes, dimensions_nodes, members_nodes, enumerators_nodes, declarators_nodes, parameters_nodes, items_nodes, designators_nodes}
use Rattle.stk_tree.specs.View.{expressions, view_expression, dimensions, view_dimension, members, view_member, enumerators, view_enumerator, declarators, view_declarator, parameters, view_parameter, items, view_item, designators, view_designator}
use Rattle.stk_tree_calls.proofs.count_expressions.+nodes.Given as goal

abbrev pub invariant-expressions_nodes-loop-x : goal.invariant-expressions_nodes-loop-x
invariant-expressions_nodes-loop-x l = l.total + expressions_nodes (expressions (map view_expression (drop l.x-index l.list))) ≡ expressions_nodes (expressions (map view_expression l.list))

abbrev pub invariant-dimensions_nodes-loop-x : goal.invariant-dimensions_nodes-loop-x
invariant-dimensions_nodes-loop-x l = l.total + dimensions_nodes (dimensions (map view_dimension (drop l.x-index l.list))) ≡ dimensions_nodes (dimensions (map view_dimension l.list))

abbrev pub invariant-members_nodes-loop-x : goal.invariant-members_nodes-loop-x
invariant-members_nodes-loop-x l = l.total + members_nodes (members (map view_member (drop l.x-index l.list))) ≡ members_nodes (members (map view_member l.list))

abbrev pub invariant-enumerators_nodes-loop-x : goal.invariant-enumerators_nodes-loop-x
invariant-enumerators_nodes-loop-x l = l.total + enumerators_nodes (enumerators (map view_enumerator (drop l.x-index l.list))) ≡ enumerators_nodes (enumerators (map view_enumerator l.list))

abbrev pub invariant-declarators_nodes-loop-x : goal.invariant-declarators_nodes-loop-x
invariant-declarators_nodes-loop-x l = l.total + declarators_nodes (declarators (map view_declarator (drop l.x-index l.list))) ≡ declarators_nodes (declarators (map view_declarator l.list))

abbrev pub invariant-parameters_nodes-loop-x : goal.invariant-parameters_nodes-loop-x
invariant-parameters_nodes-loop-x l = l.total + parameters_nodes (parameters (map view_parameter (drop l.x-index l.list))) ≡ parameters_nodes (parameters (map view_parameter l.list))

abbrev pub invariant-items_nodes-loop-x : goal.invariant-items_nodes-loop-x
invariant-items_nodes-loop-x l = l.total + items_nodes (items (map view_item (drop l.x-index l.list))) ≡ items_nodes (items (map view_item l.list))

abbrev pub invariant-designators_nodes-loop-x : goal.invariant-designators_nodes-loop-x
invariant-designators_nodes-loop-x l = l.total + designators_nodes (designators (map view_designator (drop l.x-index l.list))) ≡ designators_nodes (designators (map view_designator l.list))

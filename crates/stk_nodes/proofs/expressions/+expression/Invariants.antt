use Rattle.std.proofs.Common.{◌≡◌, ◌++◌, map, drop}
use Rattle.stk_nodes.specs.Rows.{expressions_row, dimensions_row, members_row, enumerators_row, declarators_row, parameters_row, items_row, designators_row}
use Rattle.stk_tree.specs.View.{expressions, view_expression, dimensions, view_dimension, members, view_member, enumerators, view_enumerator, declarators, view_declarator, parameters, view_parameter, items, view_item, designators, view_designator}
use Rattle.stk_nodes.proofs.expressions.+expression.Given as goal

abbrev pub invariant-put_expressions-loop-x : goal.invariant-put_expressions-loop-x
invariant-put_expressions-loop-x l = l.out.items ++ expressions_row (expressions (map view_expression (drop l.x-index l.list))) ≡ l.initial.out.items ++ expressions_row (expressions (map view_expression l.list))

abbrev pub invariant-put_dimensions-loop-x : goal.invariant-put_dimensions-loop-x
invariant-put_dimensions-loop-x l = l.out.items ++ dimensions_row (dimensions (map view_dimension (drop l.x-index l.list))) ≡ l.initial.out.items ++ dimensions_row (dimensions (map view_dimension l.list))

abbrev pub invariant-put_members-loop-x : goal.invariant-put_members-loop-x
invariant-put_members-loop-x l = l.out.items ++ members_row (members (map view_member (drop l.x-index l.list))) ≡ l.initial.out.items ++ members_row (members (map view_member l.list))

abbrev pub invariant-put_enumerators-loop-x : goal.invariant-put_enumerators-loop-x
invariant-put_enumerators-loop-x l = l.out.items ++ enumerators_row (enumerators (map view_enumerator (drop l.x-index l.list))) ≡ l.initial.out.items ++ enumerators_row (enumerators (map view_enumerator l.list))

abbrev pub invariant-put_declarators-loop-x : goal.invariant-put_declarators-loop-x
invariant-put_declarators-loop-x l = l.out.items ++ declarators_row (declarators (map view_declarator (drop l.x-index l.list))) ≡ l.initial.out.items ++ declarators_row (declarators (map view_declarator l.list))

abbrev pub invariant-put_parameters-loop-x : goal.invariant-put_parameters-loop-x
invariant-put_parameters-loop-x l = l.out.items ++ parameters_row (parameters (map view_parameter (drop l.x-index l.list))) ≡ l.initial.out.items ++ parameters_row (parameters (map view_parameter l.list))

abbrev pub invariant-put_items-loop-x : goal.invariant-put_items-loop-x
invariant-put_items-loop-x l = l.out.items ++ items_row (items (map view_item (drop l.x-index l.list))) ≡ l.initial.out.items ++ items_row (items (map view_item l.list))

abbrev pub invariant-put_designators-loop-x : goal.invariant-put_designators-loop-x
invariant-put_designators-loop-x l = l.out.items ++ designators_row (designators (map view_designator (drop l.x-index l.list))) ≡ l.initial.out.items ++ designators_row (designators (map view_designator l.list))

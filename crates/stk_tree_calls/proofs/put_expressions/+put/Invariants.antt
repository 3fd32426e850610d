use Rattle.std.proofs.Common.{◌≡◌, ◌++◌, map, drop}
use Rattle.stk_tree.specs.Tokens.{more_expressions, dimensions_tokens, members_tokens, more_enumerators, more_declarators, more_parameters, more_items, designators_tokens}
use Rattle.stk_tree.specs.View.{expressions, view_expression, dimensions, view_dimension, members, view_member, enumerators, view_enumerator, declarators, view_declarator, parameters, view_parameter, items, view_item, designators, view_designator}
use Rattle.stk_tree_calls.proofs.put_expressions.+put.Given as goal

abbrev pub invariant-put_expressions-loop-argument : goal.invariant-put_expressions-loop-argument
invariant-put_expressions-loop-argument l = l.out.items ++ more_expressions (expressions (map view_expression (drop l.argument-index l.rest))) ≡ l.initial.out.items ++ more_expressions (expressions (map view_expression l.rest))

abbrev pub invariant-put_dimensions-loop-x : goal.invariant-put_dimensions-loop-x
invariant-put_dimensions-loop-x l = l.out.items ++ dimensions_tokens (dimensions (map view_dimension (drop l.x-index l.list))) ≡ l.initial.out.items ++ dimensions_tokens (dimensions (map view_dimension l.list))

abbrev pub invariant-put_members-loop-x : goal.invariant-put_members-loop-x
invariant-put_members-loop-x l = l.out.items ++ members_tokens (members (map view_member (drop l.x-index l.list))) ≡ l.initial.out.items ++ members_tokens (members (map view_member l.list))

abbrev pub invariant-put_enumerators-loop-x : goal.invariant-put_enumerators-loop-x
invariant-put_enumerators-loop-x l = l.out.items ++ more_enumerators (enumerators (map view_enumerator (drop l.x-index l.rest))) ≡ l.initial.out.items ++ more_enumerators (enumerators (map view_enumerator l.rest))

abbrev pub invariant-put_declarators-loop-x : goal.invariant-put_declarators-loop-x
invariant-put_declarators-loop-x l = l.out.items ++ more_declarators (declarators (map view_declarator (drop l.x-index l.rest))) ≡ l.initial.out.items ++ more_declarators (declarators (map view_declarator l.rest))

abbrev pub invariant-put_parameters-loop-x : goal.invariant-put_parameters-loop-x
invariant-put_parameters-loop-x l = l.out.items ++ more_parameters (parameters (map view_parameter (drop l.x-index l.rest))) ≡ l.initial.out.items ++ more_parameters (parameters (map view_parameter l.rest))

abbrev pub invariant-put_items-loop-x : goal.invariant-put_items-loop-x
invariant-put_items-loop-x l = l.out.items ++ more_items (items (map view_item (drop l.x-index l.rest))) ≡ l.initial.out.items ++ more_items (items (map view_item l.rest))

abbrev pub invariant-put_designators-loop-x : goal.invariant-put_designators-loop-x
invariant-put_designators-loop-x l = l.out.items ++ designators_tokens (designators (map view_designator (drop l.x-index l.list))) ≡ l.initial.out.items ++ designators_tokens (designators (map view_designator l.list))

use Rattle.std.proofs.Common.{◌≡◌, ◌+◌, length, map, take, drop}
use Rattle.stk_nodes.specs.Setter.{setter}
use Rattle.stk_tree.specs.Layout.{laid_expressions, laid_dimensions, laid_members, laid_enumerators, laid_declarators, laid_parameters, laid_items, laid_designators}
use Rattle.stk_tree.specs.Nodes.{expressions_nodes, dimensions_nodes, members_nodes, enumerators_nodes, declarators_nodes, parameters_nodes, items_nodes, designators_nodes}
use Rattle.stk_tree.specs.Syntax.{then_expression, then_dimension, then_member, then_enumerator, then_declarator, then_parameter, then_item, then_designator}
use Rattle.stk_tree.specs.Tokens.{more_expressions, expressions_tokens, dimensions_tokens, members_tokens, more_enumerators, enumerators_tokens, more_declarators, declarators_tokens, more_parameters, parameters_tokens, more_items, items_tokens, designators_tokens}
use Rattle.stk_tree.specs.View.{chained, expressions, view_expression, dimensions, view_dimension, members, view_member, enumerators, view_enumerator, declarators, view_declarator, parameters, view_parameter, items, view_item, designators, view_designator}
use Rattle.stk_nodes.proofs.lay_expressions.+lay_expression.Given as goal

abbrev pub invariant-lay_expressions-loop-i : goal.invariant-lay_expressions-loop-i
invariant-lay_expressions-loop-i l = record {
  same : goal.unvisited-lay_expressions-loop-i l;
  tree : laid_expressions (setter l.records) l.fn.at.number l.fn.at.token (expressions (map view_expression l.fn.list)) ≡ chained then_expression (laid_expressions (setter l.records) l.end.number (l.end.token + 1) (expressions (map view_expression (drop l.i l.list)))) (map view_expression (take l.i l.list));
  number : l.end.number + expressions_nodes (expressions (map view_expression (drop l.i l.list))) ≡ l.fn.at.number + expressions_nodes (expressions (map view_expression l.fn.list));
  token : l.end.token + length (more_expressions (expressions (map view_expression (drop l.i l.list)))) ≡ l.fn.at.token + length (expressions_tokens (expressions (map view_expression l.fn.list)));
}

abbrev pub invariant-lay_dimensions-loop-i : goal.invariant-lay_dimensions-loop-i
invariant-lay_dimensions-loop-i l = record {
  same : goal.unvisited-lay_dimensions-loop-i l;
  tree : laid_dimensions (setter l.records) l.fn.at.number l.fn.at.token (dimensions (map view_dimension l.fn.list)) ≡ chained then_dimension (laid_dimensions (setter l.records) l.end.number (l.end.token) (dimensions (map view_dimension (drop l.i l.list)))) (map view_dimension (take l.i l.list));
  number : l.end.number + dimensions_nodes (dimensions (map view_dimension (drop l.i l.list))) ≡ l.fn.at.number + dimensions_nodes (dimensions (map view_dimension l.fn.list));
  token : l.end.token + length (dimensions_tokens (dimensions (map view_dimension (drop l.i l.list)))) ≡ l.fn.at.token + length (dimensions_tokens (dimensions (map view_dimension l.fn.list)));
}

abbrev pub invariant-lay_members-loop-i : goal.invariant-lay_members-loop-i
invariant-lay_members-loop-i l = record {
  same : goal.unvisited-lay_members-loop-i l;
  tree : laid_members (setter l.records) l.fn.at.number l.fn.at.token (members (map view_member l.fn.list)) ≡ chained then_member (laid_members (setter l.records) l.end.number (l.end.token) (members (map view_member (drop l.i l.list)))) (map view_member (take l.i l.list));
  number : l.end.number + members_nodes (members (map view_member (drop l.i l.list))) ≡ l.fn.at.number + members_nodes (members (map view_member l.fn.list));
  token : l.end.token + length (members_tokens (members (map view_member (drop l.i l.list)))) ≡ l.fn.at.token + length (members_tokens (members (map view_member l.fn.list)));
}

abbrev pub invariant-lay_enumerators-loop-i : goal.invariant-lay_enumerators-loop-i
invariant-lay_enumerators-loop-i l = record {
  same : goal.unvisited-lay_enumerators-loop-i l;
  tree : laid_enumerators (setter l.records) l.fn.at.number l.fn.at.token (enumerators (map view_enumerator l.fn.list)) ≡ chained then_enumerator (laid_enumerators (setter l.records) l.end.number (l.end.token + 1) (enumerators (map view_enumerator (drop l.i l.list)))) (map view_enumerator (take l.i l.list));
  number : l.end.number + enumerators_nodes (enumerators (map view_enumerator (drop l.i l.list))) ≡ l.fn.at.number + enumerators_nodes (enumerators (map view_enumerator l.fn.list));
  token : l.end.token + length (more_enumerators (enumerators (map view_enumerator (drop l.i l.list)))) ≡ l.fn.at.token + length (enumerators_tokens (enumerators (map view_enumerator l.fn.list)));
}

abbrev pub invariant-lay_declarators-loop-i : goal.invariant-lay_declarators-loop-i
invariant-lay_declarators-loop-i l = record {
  same : goal.unvisited-lay_declarators-loop-i l;
  tree : laid_declarators (setter l.records) l.fn.at.number l.fn.at.token (declarators (map view_declarator l.fn.list)) ≡ chained then_declarator (laid_declarators (setter l.records) l.end.number (l.end.token + 1) (declarators (map view_declarator (drop l.i l.list)))) (map view_declarator (take l.i l.list));
  number : l.end.number + declarators_nodes (declarators (map view_declarator (drop l.i l.list))) ≡ l.fn.at.number + declarators_nodes (declarators (map view_declarator l.fn.list));
  token : l.end.token + length (more_declarators (declarators (map view_declarator (drop l.i l.list)))) ≡ l.fn.at.token + length (declarators_tokens (declarators (map view_declarator l.fn.list)));
}

abbrev pub invariant-lay_parameters-loop-i : goal.invariant-lay_parameters-loop-i
invariant-lay_parameters-loop-i l = record {
  same : goal.unvisited-lay_parameters-loop-i l;
  tree : laid_parameters (setter l.records) l.fn.at.number l.fn.at.token (parameters (map view_parameter l.fn.list)) ≡ chained then_parameter (laid_parameters (setter l.records) l.end.number (l.end.token + 1) (parameters (map view_parameter (drop l.i l.list)))) (map view_parameter (take l.i l.list));
  number : l.end.number + parameters_nodes (parameters (map view_parameter (drop l.i l.list))) ≡ l.fn.at.number + parameters_nodes (parameters (map view_parameter l.fn.list));
  token : l.end.token + length (more_parameters (parameters (map view_parameter (drop l.i l.list)))) ≡ l.fn.at.token + length (parameters_tokens (parameters (map view_parameter l.fn.list)));
}

abbrev pub invariant-lay_items-loop-i : goal.invariant-lay_items-loop-i
invariant-lay_items-loop-i l = record {
  same : goal.unvisited-lay_items-loop-i l;
  tree : laid_items (setter l.records) l.fn.at.number l.fn.at.token (items (map view_item l.fn.list)) ≡ chained then_item (laid_items (setter l.records) l.end.number (l.end.token + 1) (items (map view_item (drop l.i l.list)))) (map view_item (take l.i l.list));
  number : l.end.number + items_nodes (items (map view_item (drop l.i l.list))) ≡ l.fn.at.number + items_nodes (items (map view_item l.fn.list));
  token : l.end.token + length (more_items (items (map view_item (drop l.i l.list)))) ≡ l.fn.at.token + length (items_tokens (items (map view_item l.fn.list)));
}

abbrev pub invariant-lay_designators-loop-i : goal.invariant-lay_designators-loop-i
invariant-lay_designators-loop-i l = record {
  same : goal.unvisited-lay_designators-loop-i l;
  tree : laid_designators (setter l.records) l.fn.at.number l.fn.at.token (designators (map view_designator l.fn.list)) ≡ chained then_designator (laid_designators (setter l.records) l.end.number (l.end.token) (designators (map view_designator (drop l.i l.list)))) (map view_designator (take l.i l.list));
  number : l.end.number + designators_nodes (designators (map view_designator (drop l.i l.list))) ≡ l.fn.at.number + designators_nodes (designators (map view_designator l.fn.list));
  token : l.end.token + length (designators_tokens (designators (map view_designator (drop l.i l.list)))) ≡ l.fn.at.token + length (designators_tokens (designators (map view_designator l.fn.list)));
}

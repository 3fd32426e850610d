use Rattle.std.proofs.Common.{◌≡◌, ◌+◌, length, map, take, drop}
use Rattle.stk_nodes.specs.Setter.{setter}
use Rattle.stk_tree.specs.Layout.{laid_statements, laid_parts, laid_sections}
use Rattle.stk_tree.specs.Nodes.{statements_nodes, parts_nodes, sections_nodes}
use Rattle.stk_tree.specs.Syntax.{then_statement, then_part, then_section}
use Rattle.stk_tree.specs.Tokens.{statements_tokens, parts_tokens, sections_tokens}
use Rattle.stk_tree.specs.View.{chained, statements, view_statement, parts, view_part, sections, view_section}
use Rattle.stk_nodes.proofs.lay_statements.+lay_statement.Given as goal

abbrev pub invariant-lay_statements-loop-i : goal.invariant-lay_statements-loop-i
invariant-lay_statements-loop-i l = record {
  same : goal.unvisited-lay_statements-loop-i l;
  tree : laid_statements (setter l.records) l.fn.at.number l.fn.at.token (statements (map view_statement l.fn.list)) ≡ chained then_statement (laid_statements (setter l.records) l.end.number (l.end.token) (statements (map view_statement (drop l.i l.list)))) (map view_statement (take l.i l.list));
  number : l.end.number + statements_nodes (statements (map view_statement (drop l.i l.list))) ≡ l.fn.at.number + statements_nodes (statements (map view_statement l.fn.list));
  token : l.end.token + length (statements_tokens (statements (map view_statement (drop l.i l.list)))) ≡ l.fn.at.token + length (statements_tokens (statements (map view_statement l.fn.list)));
}

abbrev pub invariant-lay_parts-loop-i : goal.invariant-lay_parts-loop-i
invariant-lay_parts-loop-i l = record {
  same : goal.unvisited-lay_parts-loop-i l;
  tree : laid_parts (setter l.records) l.fn.at.number l.fn.at.token (parts (map view_part l.fn.list)) ≡ chained then_part (laid_parts (setter l.records) l.end.number (l.end.token) (parts (map view_part (drop l.i l.list)))) (map view_part (take l.i l.list));
  number : l.end.number + parts_nodes (parts (map view_part (drop l.i l.list))) ≡ l.fn.at.number + parts_nodes (parts (map view_part l.fn.list));
  token : l.end.token + length (parts_tokens (parts (map view_part (drop l.i l.list)))) ≡ l.fn.at.token + length (parts_tokens (parts (map view_part l.fn.list)));
}

abbrev pub invariant-lay_sections-loop-i : goal.invariant-lay_sections-loop-i
invariant-lay_sections-loop-i l = record {
  same : goal.unvisited-lay_sections-loop-i l;
  tree : laid_sections (setter l.records) l.fn.at.number l.fn.at.token (sections (map view_section l.fn.list)) ≡ chained then_section (laid_sections (setter l.records) l.end.number (l.end.token) (sections (map view_section (drop l.i l.list)))) (map view_section (take l.i l.list));
  number : l.end.number + sections_nodes (sections (map view_section (drop l.i l.list))) ≡ l.fn.at.number + sections_nodes (sections (map view_section l.fn.list));
  token : l.end.token + length (sections_tokens (sections (map view_section (drop l.i l.list)))) ≡ l.fn.at.token + length (sections_tokens (sections (map view_section l.fn.list)));
}

use Rattle.std.proofs.Common.{◌≡◌, ◌+◌, map, drop}
use Rattle.stk_tree.specs.Nodes.{statements_nodes, parts_nodes, sections_nodes}
use Rattle.stk_tree.specs.View.{statements, view_statement, parts, view_part, sections, view_section}
use Rattle.stk_tree_calls.proofs.count_units.+nodes_of_statement.Given as goal

abbrev pub invariant-statements_nodes-loop-x : goal.invariant-statements_nodes-loop-x
invariant-statements_nodes-loop-x l = l.total + statements_nodes (statements (map view_statement (drop l.x-index l.list))) ≡ statements_nodes (statements (map view_statement l.list))

abbrev pub invariant-parts_nodes-loop-x : goal.invariant-parts_nodes-loop-x
invariant-parts_nodes-loop-x l = l.total + parts_nodes (parts (map view_part (drop l.x-index l.list))) ≡ parts_nodes (parts (map view_part l.list))

abbrev pub invariant-sections_nodes-loop-x : goal.invariant-sections_nodes-loop-x
invariant-sections_nodes-loop-x l = l.total + sections_nodes (sections (map view_section (drop l.x-index l.list))) ≡ sections_nodes (sections (map view_section l.list))

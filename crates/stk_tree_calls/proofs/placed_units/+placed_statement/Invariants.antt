use Rattle.std.proofs.Common.{◌≡◌, map, drop}
use Rattle.stk_tree.specs.Placed.{parts_placed, sections_placed, statements_placed}
use Rattle.stk_tree.specs.View.{parts, sections, statements, view_part, view_section, view_statement}
use Rattle.stk_tree_calls.proofs.placed_units.+placed_statement.Given as goal

abbrev pub invariant-statements_placed-loop-x : goal.invariant-statements_placed-loop-x
invariant-statements_placed-loop-x l = statements_placed (statements (map view_statement (drop l.x-index l.list))) ≡ statements_placed (statements (map view_statement l.list))

abbrev pub invariant-parts_placed-loop-x : goal.invariant-parts_placed-loop-x
invariant-parts_placed-loop-x l = parts_placed (parts (map view_part (drop l.x-index l.list))) ≡ parts_placed (parts (map view_part l.list))

abbrev pub invariant-sections_placed-loop-i : goal.invariant-sections_placed-loop-i
invariant-sections_placed-loop-i l = sections_placed (sections (map view_section (drop l.i l.list))) ≡ sections_placed (sections (map view_section l.list))

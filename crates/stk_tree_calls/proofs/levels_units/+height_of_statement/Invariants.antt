use Rattle.std.proofs.Common.{◌≡◌, map, max, drop}
use Rattle.stk_tree.specs.Height.{statements_height, parts_height, sections_height}
use Rattle.stk_tree.specs.View.{statements, view_statement, parts, view_part, sections, view_section}
use Rattle.stk_tree_calls.proofs.levels_units.+height_of_statement.Given as goal

abbrev pub invariant-statements_height-loop-x : goal.invariant-statements_height-loop-x
invariant-statements_height-loop-x l = max l.most (statements_height (statements (map view_statement (drop l.x-index l.list)))) ≡ statements_height (statements (map view_statement l.list))

abbrev pub invariant-parts_height-loop-x : goal.invariant-parts_height-loop-x
invariant-parts_height-loop-x l = max l.most (parts_height (parts (map view_part (drop l.x-index l.list)))) ≡ parts_height (parts (map view_part l.list))

abbrev pub invariant-sections_height-loop-x : goal.invariant-sections_height-loop-x
invariant-sections_height-loop-x l = max l.most (sections_height (sections (map view_section (drop l.x-index l.list)))) ≡ sections_height (sections (map view_section l.list))

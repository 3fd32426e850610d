use Rattle.std.proofs.Common.{◌≡◌, ◌++◌, map, drop}
use Rattle.stk_tree.specs.Tokens.{statements_tokens, parts_tokens, sections_tokens}
use Rattle.stk_tree.specs.View.{statements, view_statement, parts, view_part, sections, view_section}
use Rattle.stk_tree_calls.proofs.put_units.+put_statement.Given as goal

abbrev pub invariant-put_statements-loop-x : goal.invariant-put_statements-loop-x
invariant-put_statements-loop-x l = l.out.items ++ statements_tokens (statements (map view_statement (drop l.x-index l.list))) ≡ l.initial.out.items ++ statements_tokens (statements (map view_statement l.list))

abbrev pub invariant-put_parts-loop-x : goal.invariant-put_parts-loop-x
invariant-put_parts-loop-x l = l.out.items ++ parts_tokens (parts (map view_part (drop l.x-index l.list))) ≡ l.initial.out.items ++ parts_tokens (parts (map view_part l.list))

abbrev pub invariant-put_sections-loop-x : goal.invariant-put_sections-loop-x
invariant-put_sections-loop-x l = l.out.items ++ sections_tokens (sections (map view_section (drop l.x-index l.list))) ≡ l.initial.out.items ++ sections_tokens (sections (map view_section l.list))

use Rattle.std.proofs.Common.{◌≡◌, ◌++◌, drop, map, true}
use Rattle.stk_tree.specs.View.{statements, view_statement, parts, view_part, sections, view_section}
use Rattle.stk_meaning.specs.Visits.{statements_visits, parts_visits, sections_visits}
use Rattle.stk_function_types.specs.Nodes.{typing_in}
use Rattle.stk_function_types.specs.Visits.{marked_visits, marked_visit}
use Rattle.stk_function_types.proofs.statements.+statement_visits.Given as goal

abbrev pub invariant-statements_visits-loop-x : goal.invariant-statements_visits-loop-x
invariant-statements_visits-loop-x l = map marked_visit l.out.items ++ marked_visits true (statements_visits (typing_in l.types) (statements (map view_statement (drop l.x-index l.list)))) ≡ map marked_visit l.initial.out.items ++ marked_visits true (statements_visits (typing_in l.types) (statements (map view_statement l.list)))

abbrev pub invariant-parts_visits-loop-x : goal.invariant-parts_visits-loop-x
invariant-parts_visits-loop-x l = map marked_visit l.out.items ++ marked_visits true (parts_visits (typing_in l.types) (parts (map view_part (drop l.x-index l.list)))) ≡ map marked_visit l.initial.out.items ++ marked_visits true (parts_visits (typing_in l.types) (parts (map view_part l.list)))

abbrev pub invariant-sections_visits-loop-x : goal.invariant-sections_visits-loop-x
invariant-sections_visits-loop-x l = map marked_visit l.out.items ++ marked_visits true (sections_visits (typing_in l.types) (sections (map view_section (drop l.x-index l.list)))) ≡ map marked_visit l.initial.out.items ++ marked_visits true (sections_visits (typing_in l.types) (sections (map view_section l.list)))

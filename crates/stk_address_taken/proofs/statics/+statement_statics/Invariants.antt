use Rattle.std.proofs.Common.{◌≡◌, ◌++◌, drop, map}
use Rattle.stk_tree.specs.View.{view_statement, view_part, view_section, statements, parts, sections}
use Rattle.stk_address_taken.specs.Statics.{statements_statics, parts_statics, sections_statics}
use Rattle.stk_address_taken.proofs.statics.+statement_statics.Given as goal

abbrev pub invariant-statements_statics-loop-x : goal.invariant-statements_statics-loop-x
invariant-statements_statics-loop-x l = l.out.items ++ statements_statics (statements (map view_statement (drop l.x-index l.list))) ≡ l.initial.out.items ++ statements_statics (statements (map view_statement l.list))

abbrev pub invariant-parts_statics-loop-p : goal.invariant-parts_statics-loop-p
invariant-parts_statics-loop-p l = l.out.items ++ parts_statics (parts (map view_part (drop l.p-index l.list))) ≡ l.initial.out.items ++ parts_statics (parts (map view_part l.list))

abbrev pub invariant-sections_statics-loop-x : goal.invariant-sections_statics-loop-x
invariant-sections_statics-loop-x l = l.out.items ++ sections_statics (sections (map view_section (drop l.x-index l.list))) ≡ l.initial.out.items ++ sections_statics (sections (map view_section l.list))

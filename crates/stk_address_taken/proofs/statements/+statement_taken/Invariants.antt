use Rattle.std.proofs.Common.{◌≡◌, ◌++◌, drop, map}
use Rattle.stk_tree.specs.View.{view_statement, view_part, view_section, statements, parts, sections}
use Rattle.stk_address_taken.specs.Bindings.{parts_bindings}
use Rattle.stk_address_taken.specs.Statements.{statements_taken, parts_taken, sections_taken}
use Rattle.stk_address_taken.proofs.statements.+statement_taken.Given as goal

abbrev pub invariant-statements_taken-loop-x : goal.invariant-statements_taken-loop-x
invariant-statements_taken-loop-x l = record {
  taken : l.out.items ++ statements_taken l.bytes l.bindings.items (statements (map view_statement (drop l.x-index l.list))) ≡ l.initial.out.items ++ statements_taken l.bytes l.initial.bindings.items (statements (map view_statement l.list));
  bindings : l.bindings.items ≡ l.initial.bindings.items;
}

abbrev pub invariant-parts_taken-loop-p : goal.invariant-parts_taken-loop-p
invariant-parts_taken-loop-p l = record {
  taken : l.out.items ++ parts_taken l.bytes l.bindings.items (parts (map view_part (drop l.p-index l.list))) ≡ l.initial.out.items ++ parts_taken l.bytes l.initial.bindings.items (parts (map view_part l.list));
  bindings : l.bindings.items ++ parts_bindings (parts (map view_part (drop l.p-index l.list))) ≡ l.initial.bindings.items ++ parts_bindings (parts (map view_part l.list));
}

abbrev pub invariant-sections_taken-loop-x : goal.invariant-sections_taken-loop-x
invariant-sections_taken-loop-x l = record {
  taken : l.out.items ++ sections_taken l.bytes l.bindings.items (sections (map view_section (drop l.x-index l.list))) ≡ l.initial.out.items ++ sections_taken l.bytes l.initial.bindings.items (sections (map view_section l.list));
  bindings : l.bindings.items ≡ l.initial.bindings.items;
}

use Rattle.std.proofs.Common.{◌≡◌, ◌++◌, drop, map}
use Rattle.stk_tree.specs.View.{view_declarator, declarators}
use Rattle.stk_address_taken.specs.Bindings.{declarators_bindings}
use Rattle.stk_address_taken.specs.Statements.{declarators_taken}
use Rattle.stk_address_taken.proofs.statements.declarators_taken.Given as goal

abbrev pub invariant-loop-d : goal.invariant-loop-d
invariant-loop-d l = record {
  taken : l.out.items ++ declarators_taken l.bytes l.bindings.items l.is_static (declarators (map view_declarator (drop l.d-index l.list))) ≡ l.initial.out.items ++ declarators_taken l.bytes l.initial.bindings.items l.is_static (declarators (map view_declarator l.list));
  bindings : l.bindings.items ++ declarators_bindings (declarators (map view_declarator (drop l.d-index l.list))) ≡ l.initial.bindings.items ++ declarators_bindings (declarators (map view_declarator l.list));
}

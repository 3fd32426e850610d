use Rattle.std.proofs.Common.{◌≡◌, ◌++◌, drop, map}
use Rattle.stk_tree.specs.View.{view_parameter, parameters}
use Rattle.stk_address_taken.specs.Bindings.{parameters_bindings}
use Rattle.stk_address_taken.specs.Statements.{parameters_taken}
use Rattle.stk_address_taken.proofs.statements.parameters_taken.Given as goal

abbrev pub invariant-loop-p : goal.invariant-loop-p
invariant-loop-p l = record {
  taken : l.out.items ++ parameters_taken l.bytes l.bindings.items (parameters (map view_parameter (drop l.p-index l.list))) ≡ l.initial.out.items ++ parameters_taken l.bytes l.initial.bindings.items (parameters (map view_parameter l.list));
  bindings : l.bindings.items ++ parameters_bindings (parameters (map view_parameter (drop l.p-index l.list))) ≡ l.initial.bindings.items ++ parameters_bindings (parameters (map view_parameter l.list));
}

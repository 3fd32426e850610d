use Rattle.std.proofs.Common.{◌≡◌, ◌++◌, map, drop}
use Rattle.stk_tree.specs.View.{view_parameter, parameters}
use Rattle.stk_spelling.specs.Named.{parameters_named}
use Rattle.stk_spelling.proofs.names.parameters_named.Given as goal

abbrev pub invariant-loop-p : goal.invariant-loop-p
invariant-loop-p l = l.out.items ++ parameters_named (parameters (map view_parameter (drop l.p-index l.list))) ≡ l.initial.out.items ++ parameters_named (parameters (map view_parameter l.list))

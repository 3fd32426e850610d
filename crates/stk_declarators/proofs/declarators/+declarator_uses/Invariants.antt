use Rattle.std.proofs.Common.{◌≡◌, ◌++◌, drop, map}
use Rattle.stk_tree.specs.View.{view_parameter, parameters}
use Rattle.stk_declarators.specs.Uses.{parameters_uses}
use Rattle.stk_declarators.proofs.declarators.+declarator_uses.Given as goal

abbrev pub invariant-parameters_uses-loop-p : goal.invariant-parameters_uses-loop-p
invariant-parameters_uses-loop-p l = l.out.items ++ parameters_uses (parameters (map view_parameter (drop l.p-index l.list))) ≡ l.initial.out.items ++ parameters_uses (parameters (map view_parameter l.list))

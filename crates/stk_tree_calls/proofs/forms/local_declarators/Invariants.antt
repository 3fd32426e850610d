use Rattle.std.proofs.Common.{◌≡◌, map, drop}
use Rattle.stk_tree.specs.Placed.{local_declarators}
use Rattle.stk_tree.specs.View.{declarators, view_declarator}
use Rattle.stk_tree_calls.proofs.forms.local_declarators.Given as goal

abbrev pub invariant-loop-x : goal.invariant-loop-x
invariant-loop-x l = local_declarators (declarators (map view_declarator (drop l.x-index l.list))) ≡ local_declarators (declarators (map view_declarator l.list))

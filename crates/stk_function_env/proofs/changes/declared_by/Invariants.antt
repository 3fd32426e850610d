use Rattle.std.proofs.Common.{◌≡◌, ◌++◌, drop, map}
use Rattle.stk_tree.specs.View.{view_declarator, declarators}
use Rattle.stk_meaning.specs.Visits.{declared_by}
use Rattle.stk_function_env.proofs.changes.declared_by.Given as goal

abbrev pub invariant-loop-d : goal.invariant-loop-d
invariant-loop-d l = l.out.items ++ declared_by (declarators (map view_declarator (drop l.d-index l.list))) ≡ l.initial.out.items ++ declared_by (declarators (map view_declarator l.list))

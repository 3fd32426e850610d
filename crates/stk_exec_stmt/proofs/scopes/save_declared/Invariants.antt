use Rattle.std.proofs.Common.{◌≡◌, ◌++◌, drop, map}
use Rattle.stk_tree.specs.View.{view_declarator, declarators}
use Rattle.stk_meaning.specs.Visits.{declared_by}
use Rattle.stk_exec_stmt.specs.Saved.{saved_of}
use Rattle.stk_exec_stmt.proofs.scopes.save_declared.Given as goal

-- what was saved, in front of what is left, is the whole
abbrev pub invariant-loop-d : goal.invariant-loop-d
invariant-loop-d g l =
    l.saved.items ++ saved_of (declared_by (declarators (map view_declarator (drop l.d-index l.list)))) l.state.registers.items ≡ l.initial.saved.items ++ saved_of (declared_by (declarators (map view_declarator l.list))) l.state.registers.items

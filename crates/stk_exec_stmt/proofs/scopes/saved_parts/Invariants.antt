use Rattle.std.proofs.Common.{◌≡◌, ◌++◌, drop, map}
use Rattle.stk_tree.specs.View.{view_part, parts}
use Rattle.stk_meaning.specs.Visits.{parts_declare}
use Rattle.stk_exec_stmt.specs.Saved.{saved_of}
use Rattle.stk_exec_stmt.proofs.scopes.saved_parts.Given as goal

-- what was saved, in front of what is left, is the whole
abbrev pub invariant-loop-part : goal.invariant-loop-part
invariant-loop-part g l =
    l.saved.items ++ saved_of (parts_declare (parts (map view_part (drop l.part-index l.list)))) l.state.registers.items ≡ saved_of (parts_declare (parts (map view_part l.list))) l.state.registers.items

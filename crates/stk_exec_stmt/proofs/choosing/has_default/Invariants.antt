use Rattle.std.proofs.Common.{◌≡◌, drop, map}
use Rattle.stk_tree.specs.View.{view_label, labels}
use Rattle.stk_meaning.specs.Statements.{has_default}
use Rattle.stk_exec_stmt.proofs.choosing.has_default.Given as goal

-- what is left answers for the whole
abbrev pub invariant-loop-label : goal.invariant-loop-label
invariant-loop-label l = has_default (labels (map view_label (drop l.label-index l.list))) ≡ has_default (labels (map view_label l.list))

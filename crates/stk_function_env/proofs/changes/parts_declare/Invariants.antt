use Rattle.std.proofs.Common.{◌≡◌, ◌++◌, drop, map}
use Rattle.stk_tree.specs.View.{view_part, parts}
use Rattle.stk_meaning.specs.Visits.{parts_declare}
use Rattle.stk_function_env.proofs.changes.parts_declare.Given as goal

abbrev pub invariant-loop-p : goal.invariant-loop-p
invariant-loop-p l = l.out.items ++ parts_declare (parts (map view_part (drop l.p-index l.list))) ≡ parts_declare (parts (map view_part l.list))

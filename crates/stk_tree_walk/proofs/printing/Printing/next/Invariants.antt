use Rattle.std.proofs.Common.{◌≡◌}
use Rattle.stk_tree_walk.specs.Waiting.{heft, left_of}
use Rattle.stk_tree_walk.proofs.printing.Printing.next.Given as goal

abbrev pub invariant-loop-item : goal.invariant-loop-item
invariant-loop-item l = left_of l.self-inside.waiting.items ≡ left_of l.initial.self-inside.waiting.items

abbrev pub decreases-loop-item : goal.decreases-loop-item
decreases-loop-item l = heft l.self-inside.waiting.items

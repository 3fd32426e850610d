use Rattle.std.proofs.Common.{ℕ, ◌≡◌, ◌+◌, ◌-◌, vec_len, get_or}
use Rattle.stk_replaying.specs.Marks.{no_kinds}
use Rattle.stk_replaying.proofs.marks.reach.Given as goal

abbrev pub invariant-loop-nodes : goal.invariant-loop-nodes
invariant-loop-nodes l = (k : ℕ) → get_or l.nodes.items k no_kinds ≡ get_or l.initial.nodes.items k no_kinds

abbrev pub decreases-loop-nodes : goal.decreases-loop-nodes
decreases-loop-nodes l = l.node + 1 - vec_len l.nodes

use Rattle.std.proofs.Common.{ℕ, ◌≡◌, ◌+◌, ◌-◌, vec_len, get_or, None}
use Rattle.stk_path_runs.proofs.slots.reach.Given as goal

abbrev pub invariant-loop-list : goal.invariant-loop-list
invariant-loop-list l = (k : ℕ) → get_or l.list.items k None ≡ get_or l.initial.list.items k None

abbrev pub decreases-loop-list : goal.decreases-loop-list
decreases-loop-list l = l.at + 1 - vec_len l.list

use Rattle.std.proofs.Common.{ℕ, ◌≡◌, ◌+◌, ◌-◌, vec_len, get_or, false}
use Rattle.stk_address_taken.proofs.sets.reach.Given as goal

abbrev pub invariant-loop-marks : goal.invariant-loop-marks
invariant-loop-marks l = (k : ℕ) → get_or l.marks.items k false ≡ get_or l.initial.marks.items k false

abbrev pub decreases-loop-marks : goal.decreases-loop-marks
decreases-loop-marks l = l.place + 1 - vec_len l.marks

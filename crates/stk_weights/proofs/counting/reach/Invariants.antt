use Rattle.std.proofs.Common.{ℕ, ◌≡◌, ◌+◌, ◌-◌, ◌≤◌, vec_len, length, get_or}
use Rattle.stk_weights.specs.Counting.{nothing}
use Rattle.stk_weights.proofs.counting.reach.Given as goal

abbrev pub invariant-loop-rows : goal.invariant-loop-rows
invariant-loop-rows l = record {
  grown : length l.initial.rows.items ≤ length l.rows.items;
  same : (r : ℕ) → get_or l.rows.items r nothing ≡ get_or l.initial.rows.items r nothing;
}

abbrev pub decreases-loop-rows : goal.decreases-loop-rows
decreases-loop-rows l = l.at + 1 - vec_len l.rows

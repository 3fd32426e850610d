use Rattle.std.proofs.Common.{ℕ, ◌≡◌, ◌||◌, drop, get_or, false}
use Rattle.stk_address_taken.specs.Sets.{is_listed}
use Rattle.stk_address_taken.proofs.sets.marks_of.Given as goal

abbrev pub invariant-loop-node : goal.invariant-loop-node
invariant-loop-node l = (k : ℕ) → (get_or l.marks.items k false || is_listed k (drop l.node-index l.list)) ≡ is_listed k l.list

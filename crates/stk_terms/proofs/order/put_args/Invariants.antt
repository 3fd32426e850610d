use Rattle.std.proofs.Common.{◌≡◌, ℕ, ◌||◌, drop}
use Rattle.std.specs.BTreeSet.{contains}
use Rattle.std.specs.Ordering.{nat_cmp}
use Rattle.stk_terms.specs.Orders.{is_among}
use Rattle.stk_terms.proofs.order.put_args.Given as goal

-- what is left to put, beside what is there, is what all were beside the first ones
abbrev pub invariant-loop-arg : goal.invariant-loop-arg
invariant-loop-arg l = (j : ℕ) → (is_among (drop l.arg-index l.args) j || contains nat_cmp l.places j) ≡ (is_among l.fn.args j || contains nat_cmp l.fn.places j)

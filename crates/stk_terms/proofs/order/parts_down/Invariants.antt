use Rattle.std.proofs.Common.{reverse}
use Rattle.std.specs.BTreeSet.{contains}
use Rattle.std.specs.Ordering.{nat_cmp}
use Rattle.stk_terms.proofs.Collecting.{AreWaiting}
use Rattle.stk_terms.proofs.order.parts_down.Given as goal

-- the parts so far, and those that wait
abbrev pub invariant-loop-turn : goal.invariant-loop-turn
invariant-loop-turn l = AreWaiting l.terms l.fn.id.0 l._turn (contains nat_cmp l.waiting) (reverse l.places.items)

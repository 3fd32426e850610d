use Rattle.std.proofs.Common.{◌≡◌, ◌≤◌, length, take}
use Rattle.stk_typing.proofs.locals.Locals.cut_to.Given as goal

abbrev pub invariant-loop-self : goal.invariant-loop-self
invariant-loop-self l = (l.self ≡ take (length l.self) l.fn.self) × (l.count ≤ length l.self)

abbrev pub decreases-loop-self : goal.decreases-loop-self
decreases-loop-self l = length l.self

use Rattle.std.proofs.Common.{◌≡◌, length}
use Rattle.stk_walk_statements.specs.Saved.{given_back}
use Rattle.stk_walk_statements.proofs.scopes.give_back.Given as goal

-- what is left to give back makes the whole
abbrev pub invariant-loop-last : goal.invariant-loop-last
invariant-loop-last g l = given_back l.left.items l.registers.items ≡ given_back l.fn.saved.items l.fn.registers.items

abbrev pub decreases-loop-last : goal.decreases-loop-last
decreases-loop-last g l = length l.left.items

use Rattle.std.proofs.Common.{◌≡◌, length, take}
use Rattle.stk_propagate.proofs.assignment.Assignment.cut_to.Given as goal

abbrev pub invariant-loop-self : goal.invariant-loop-self
invariant-loop-self l = record {
  literals : take l.count l.self.literals ≡ take l.count l.fn.self.literals;
  reasons : take l.count l.self.reasons ≡ take l.count l.fn.self.reasons;
  vars : l.self.vars ≡ l.fn.self.vars;
}

abbrev pub decreases-loop-self : goal.decreases-loop-self
decreases-loop-self l = length l.self.literals

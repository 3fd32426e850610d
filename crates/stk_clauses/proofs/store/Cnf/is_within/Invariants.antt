use Rattle.std.proofs.Common.{take}
use Rattle.std.specs.List.{All}
use Rattle.stk_clauses.specs.Literals.{AreBelow}
use Rattle.stk_clauses.proofs.store.Cnf.is_within.Given as goal

abbrev pub invariant-loop-id : goal.invariant-loop-id
invariant-loop-id l = All (AreBelow l.self.vars) (take l.id l.self.store)

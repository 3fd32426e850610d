use Rattle.std.proofs.Common.{length, ap, arith}
use Rattle.stk_clauses.proofs.Cuts.{length-cut}
use Rattle.stk_clauses.proofs.store.Store.clause.Goals as goal

pub clause_at-requires-clause-exists : goal.clause_at-requires-clause-exists
clause_at-requires-clause-exists c = omega (arith, c.requires, length-cut c.self.inside.literals.items 0 c.self.inside.ends.items, ap length c.self.view_is, ap length c.deref-2.ensures.value)

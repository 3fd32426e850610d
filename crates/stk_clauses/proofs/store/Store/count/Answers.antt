use Rattle.std.proofs.Common.{length, ap, arith}
use Rattle.stk_clauses.proofs.Cuts.{length-cut}
use Rattle.stk_clauses.proofs.store.Store.count.Goals as goal

pub returns-clause-count : goal.returns-clause-count
returns-clause-count c = omega (arith, c.len.ensures, length-cut c.self.inside.literals.items 0 c.self.inside.ends.items, ap length c.self.view_is, c.self.inside.ends.ok.0)

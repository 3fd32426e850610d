use Rattle.std.proofs.Common.{sym, subst}
use Rattle.stk_clauses.specs.Propagation.{AreQuiet}
use Rattle.stk_propagate.specs.Trailed.{Trailed}
use Rattle.stk_propagate.proofs.trail.Trail.assume.Goals as goal

pub assume-requires-clause-quiet : goal.assume-requires-clause-quiet
assume-requires-clause-quiet c = subst (λ (s : Trailed). AreQuiet s.assigned.literals c.args.store.now) (sym c.self.view_is) c.requires.quiet

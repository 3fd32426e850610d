use Rattle.std.proofs.Common.{[], get_or, sym, subst}
use Rattle.stk_propagate.specs.Trailed.{Trailed}
use Rattle.stk_propagate.specs.Fitting.{IsTimely}
use Rattle.stk_propagate.proofs.trail.Trail.attach.Goals as goal

pub take_in-requires-clause-timely : goal.take_in-requires-clause-timely
take_in-requires-clause-timely c = subst (λ (s : Trailed). IsTimely s.assigned (get_or c.args.store.now c.args.id [])) (sym c.self.view_is) c.requires.timely

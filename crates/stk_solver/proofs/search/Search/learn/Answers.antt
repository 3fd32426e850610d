use Rattle.std.proofs.Common.{◌-◌, ◌∙◌, length, get_or, take, subst, sym}
use Rattle.stk_clauses.specs.Propagation.{IsNew}
use Rattle.stk_propagate.specs.Fitting.{IsAlive, IsTimely}
use Rattle.stk_solver.specs.Learnt.{IsAsserting}
use Rattle.stk_solver.proofs.search.Search.learn.Goals as goal

pub back_from-requires-clause-asserting : goal.back_from-requires-clause-asserting
back_from-requires-clause-asserting c =
    let e = c.in_ok-learnt.ensures in
    let s = c.args.self.now in
    let a = subst (λ y. IsAsserting (take (get_or s.levels.items (length s.levels.items - 1) 0) s.trail.assigned.literals) y) (sym c.as_slice.ensures) e.asserting in
    let b = subst (λ v. IsAsserting (take (get_or v.items (length v.items - 1) 0) s.trail.assigned.literals) c.as_slice.result.now) (sym e.levels) a in
    subst (λ t. IsAsserting (take (get_or c.analyse.new.self.levels.items (length c.analyse.new.self.levels.items - 1) 0) t.assigned.literals) c.as_slice.result.now) (sym e.trail) b

pub take_in-requires-clause-fresh : goal.take_in-requires-clause-fresh
take_in-requires-clause-fresh c = subst (λ cs. IsNew cs c.in_ok-learnt.learnt.clause) (sym (c.back_from.ensures.store ∙ c.in_ok-learnt.ensures.store)) c.in_ok-learnt.ensures.fresh

pub take_in-requires-clause-alive : goal.take_in-requires-clause-alive
take_in-requires-clause-alive c = subst (λ y. IsAlive c.back_from.new.self.trail.assigned.literals y) c.as_slice.ensures c.back_from.ensures.alive

pub take_in-requires-clause-timely : goal.take_in-requires-clause-timely
take_in-requires-clause-timely c = subst (λ y. IsTimely c.back_from.new.self.trail.assigned y) c.as_slice.ensures c.back_from.ensures.timely

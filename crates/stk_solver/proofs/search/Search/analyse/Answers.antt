use Rattle.std.proofs.Common.{◌-◌, length, get_or, take, subst}
use Rattle.stk_solver.specs.Learnt.{IsAsserting}
use Rattle.stk_solver.proofs.search.Search.analyse.Goals as goal

pub returns-clause-asserting : goal.returns-clause-asserting
returns-clause-asserting c =
    let ls = c.args.self.now.levels.items in
    let t = c.args.self.now.trail.assigned.literals in
    let d = c.in_ok-learnt.learnt in
    let e = c.in_ok-learnt.ensures.asserting in
    subst (λ ys. IsAsserting (take (get_or ys (length ys - 1) 0) t) d.clause) c.deref.ensures.value e

use Rattle.std.proofs.Common.{◌≤◌, length, ap, subst, arith}
use Rattle.std.proofs.lemmas.Bool.{leb-true}
use Rattle.stk_clauses.specs.Literals.{AreBelow}
use Rattle.stk_propagate.proofs.Filling.{fresh_full}
use Rattle.stk_solver.proofs.search.Search.are_all_assigned.Goals as goal

pub returns : goal.returns
returns c h v lt =
    let s = c.args.self.now in
    let q = c.requires.search in
    let t = s.trail.assigned.literals in
    let many : s.vars ≤ length c.assigned.result.now = leb-true s.vars (length c.assigned.result.now) h in
    let below : AreBelow s.vars t = subst (λ n. AreBelow n t) q.same_vars q.assigned.within in
    fresh_full t s.vars q.assigned.fresh below (omega (arith, many, ap length c.assigned.ensures.literals)) v lt

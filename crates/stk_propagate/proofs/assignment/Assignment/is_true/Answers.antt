use Rattle.std.proofs.Common.{◌<◌, ◌*◌, arith, subst, sym}
use Rattle.stk_propagate.specs.Assigned.{Assigned}
use Rattle.stk_propagate.proofs.Pushing.{true_where}
use Rattle.stk_propagate.proofs.assignment.Assignment.is_true.Goals as goal

pub returns : goal.returns
returns c =
    let s = c.self.invariant in
    let below : c.args.lit.0 < 2 * c.self.inside.vars = subst (λ (a : Assigned). c.args.lit.0 < 2 * a.vars) (sym c.self.view_is) c.requires in
    rw (← c.self.view_is) (true_where c.self.inside.truth.items c.self.inside.literals.items c.args.lit c.index.result.now (omega (arith, s.sized, below)) c.index.ensures s.truths)

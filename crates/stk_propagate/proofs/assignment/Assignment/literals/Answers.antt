use Rattle.std.proofs.Common.{arith}
use Rattle.std.proofs.lemmas.List.Sums.{count_by-le-length}
use Rattle.stk_propagate.proofs.Pushing.{itself}
use Rattle.stk_propagate.proofs.assignment.Assignment.literals.Goals as goal

pub returns-clause-few : goal.returns-clause-few
returns-clause-few c =
    let f = c.self.inside in
    rw (← c.self.view_is) (omega (arith, count_by-le-length itself f.truth.items, c.self.invariant.counted, c.self.invariant.sized))

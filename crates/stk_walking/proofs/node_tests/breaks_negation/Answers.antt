use Rattle.std.proofs.Common.{pos, arith}
use Rattle.stk_walking.proofs.node_tests.breaks_negation.Goals as goal

pub returns-clause-value : goal.returns-clause-value
returns-clause-value g c = λ m x served hx.
    let k1 = c.in_ok-none.ensures.keeps in
    c.in_ok-found.ensures.value m (pos 0) x (k1.served m served) (c.in_ok-none.ensures.value m served) (k1.shown m _ _ _ hx)

pub returns-clause-charge : goal.returns-clause-charge
returns-clause-charge g c = omega (arith, c.in_ok-none.ensures.charge, c.in_ok-found.ensures.charge)

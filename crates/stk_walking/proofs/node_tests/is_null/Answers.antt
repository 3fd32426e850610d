use Rattle.std.proofs.Common.{pos, arith}
use Rattle.stk_walking.proofs.node_tests.is_null.Goals as goal

pub returns-clause-value : goal.returns-clause-value
returns-clause-value g c = λ m x served h.
    let k1 = c.in_ok-none.ensures.keeps in
    c.in_ok-found.ensures.value m x (pos 0) (k1.served m served) (k1.shown m _ _ _ h) (c.in_ok-none.ensures.value m served)

pub returns-clause-charge : goal.returns-clause-charge
returns-clause-charge g c = omega (arith, c.in_ok-none.ensures.charge, c.in_ok-found.ensures.charge)

use Rattle.stk_numbers.specs.Kinds.{wrap}
use Rattle.std.proofs.Common.{arith}
use Rattle.stk_walking.proofs.node_tests.breaks_in_kind.Goals as goal

pub returns-clause-value : goal.returns-clause-value
returns-clause-value g c = λ m x y served hx hy.
    let k1 = c.in_ok-x.ensures.keeps in
    let k2 = c.in_ok-y.ensures.keeps in
    let s1 = k1.served m served in
    let s2 = k2.served m s1 in
    let a = c.in_ok-x.ensures.value m x served hx in
    let b = c.in_ok-y.ensures.value m y s1 (k1.shown m _ _ _ hy) in
    c.in_ok-found.ensures.value m (wrap c.args.kind x) (wrap c.args.kind y) s2 (k2.shown m _ _ _ a) b

pub returns-clause-charge : goal.returns-clause-charge
returns-clause-charge g c = omega (arith, c.in_ok-x.ensures.charge, c.in_ok-y.ensures.charge, c.in_ok-found.ensures.charge)

use Rattle.std.proofs.Common.{pos, arith}
use Rattle.stk_numbers.specs.Conditions.{apart}
use Rattle.stk_meaning.specs.Operations.{to_address}
use Rattle.stk_walking.proofs.node_tests.breaks_copy.Goals as goal

pub returns-clause-value : goal.returns-clause-value
returns-clause-value g c = λ m x y z served h.
    let k1 = c.in_ok-to.ensures.keeps in
    let k2 = c.in_ok-from.ensures.keeps in
    let k3 = c.in_ok-count.ensures.keeps in
    let k4 = c.in_ok-distance.ensures.keeps in
    let s1 = k1.served m served in
    let s2 = k2.served m s1 in
    let s3 = k3.served m s2 in
    let s4 = k4.served m s3 in
    let a = c.in_ok-to.ensures.value m x served h.first in
    let b = c.in_ok-from.ensures.value m y s1 (k1.shown m _ _ _ h.second) in
    let n = c.in_ok-count.ensures.value m z s2 (k2.shown m _ _ _ (k1.shown m _ _ _ h.third)) in
    let far = c.in_ok-distance.ensures.value m x y s3 (k3.shown m _ _ _ (k2.shown m _ _ _ a)) (k3.shown m _ _ _ b) in
    c.in_ok-found.ensures.value m (pos (apart (to_address x) (to_address y))) (pos (to_address z)) s4 far (k4.shown m _ _ _ n)

pub returns-clause-charge : goal.returns-clause-charge
returns-clause-charge g c = omega (arith, c.in_ok-to.ensures.charge, c.in_ok-from.ensures.charge, c.in_ok-count.ensures.charge, c.in_ok-distance.ensures.charge, c.in_ok-found.ensures.charge)

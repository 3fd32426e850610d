use Rattle.std.proofs.Common.{pos, arith}
use Rattle.std.specs.Prelude.{int_lt, ◌-ℤ◌}
use Rattle.stk_numbers.specs.Kinds.{wrap}
use Rattle.stk_walking.proofs.operations.absolute.Goals as goal

pub returns-clause-value : goal.returns-clause-value
returns-clause-value g c = λ m x served hx.
    let k1 = c.in_ok-none.ensures.keeps in
    let k2 = c.compare.ensures.keeps in
    let k3 = c.arith.ensures.keeps in
    let s1 = k1.served m served in
    let s2 = k2.served m s1 in
    let s3 = k3.served m s2 in
    let none = c.in_ok-none.ensures.value m served in
    let x1 = k1.shown m _ _ _ hx in
    let x2 = k2.shown m _ _ _ x1 in
    let below = c.in_ok-below.ensures.value m x (pos 0) s1 x1 none in
    let less = c.in_ok-less.ensures.value m (pos 0) x s2 (k2.shown m _ _ _ none) x2 in
    c.in_ok-found.ensures.value m (int_lt x (pos 0)) (wrap c.args.kind (pos 0 -ℤ x)) x s3 (k3.shown m _ _ _ below) less (k3.shown m _ _ _ x2)

pub returns-clause-charge : goal.returns-clause-charge
returns-clause-charge g c = omega (arith, c.in_ok-none.ensures.charge, c.in_ok-below.ensures.charge, c.in_ok-less.ensures.charge, c.in_ok-found.ensures.charge)

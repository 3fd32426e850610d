use Rattle.std.proofs.Common.{ℤ, negsuc, ap, ◌∙◌, subst, arith}
use Rattle.stk_numbers.specs.Kinds.{wrap, is_bool}
use Rattle.stk_numbers.proofs.Machine.{shown}
use Rattle.stk_walking.proofs.Numbers.{difference_wraps, promoted_is_plain}
use Rattle.stk_walking.proofs.operations.flipped.Goals as goal

pub returns-clause-value : goal.returns-clause-value
returns-clause-value g c = λ m x served hx.
    let V = g.V.Values in
    let k = c.args.kind in
    let k1 = c.constant.ensures.keeps in
    let k2 = c.in_ok-x.ensures.keeps in
    let s1 = k1.served m served in
    let s2 = k2.served m s1 in
    let ones = subst (λ (z : ℤ). V.shows c.constant.new.self m k c.in_ok-ones.ones z) (shown k (negsuc 0) c.wrap.result c.wrap.ensures) (c.in_ok-ones.ensures.value m served) in
    let a = c.in_ok-x.ensures.value m x s1 (k1.shown m _ _ _ hx) in
    let plain = ap is_bool c.requires.promoted ∙ promoted_is_plain c.args.operand.kind in
    let found = c.in_ok-found.ensures.value m (wrap k (negsuc 0)) (wrap k x) s2 (k2.shown m _ _ _ ones) a in
    subst (λ (z : ℤ). V.shows c.arith.new.self m k c.in_ok-found.found z) (difference_wraps k (negsuc 0) x plain) found

pub returns-clause-charge : goal.returns-clause-charge
returns-clause-charge g c = omega (arith, c.in_ok-ones.ensures.charge, c.in_ok-x.ensures.charge, c.in_ok-found.ensures.charge)

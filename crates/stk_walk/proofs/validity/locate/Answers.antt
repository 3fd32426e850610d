use Rattle.stk_meaning.specs.Keys.{address_key}
use Rattle.stk_meaning.specs.Operations.{to_address}
use Rattle.std.proofs.Common.{arith}
use Rattle.stk_walk.proofs.validity.locate.Goals as goal

pub returns-clause-value : goal.returns-clause-value
returns-clause-value g c = λ m served.
    let x = g.O.WalkSetting.under c.args.out.now m (address_key c.args.object.node) in
    let k1 = c.input_value.ensures.keeps in
    let k2 = c.to_address.ensures.keeps in
    let s1 = k1.served m served in
    let s2 = k2.served m s1 in
    let address = c.in_ok-address.ensures.value m x s1 (c.in_ok-key.ensures.value m served) in
    record { address = c.in_ok-end.ensures.keeps.shown m _ _ _ address; end = c.in_ok-end.ensures.value m (to_address x) s2 address }

pub returns-clause-charge : goal.returns-clause-charge
returns-clause-charge g c = omega (arith, c.in_ok-key.ensures.charge, c.in_ok-address.ensures.charge, c.in_ok-end.ensures.charge)

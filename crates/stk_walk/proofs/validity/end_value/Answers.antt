use Rattle.std.proofs.Common.{ℤ, pos, subst, arith}
use Rattle.stk_ctype.specs.declared.kind.IntKind.TheVariants.{ULong}
use Rattle.stk_walk.proofs.Compared.{summed, stays}
use Rattle.stk_walk.proofs.validity.end_value.Goals as goal

pub returns-clause-value : goal.returns-clause-value
returns-clause-value g c = λ m n served h.
    let shows = g.V.Values.shows in
    let k1 = c.constant.ensures.keeps in
    let size = subst (λ (z : ℤ). shows c.constant.new.self m ULong c.in_ok-size.size z) (stays c.args.size c.from.result (omega (arith, c.ranges.size.fits)) c.from.ensures) (c.in_ok-size.ensures.value m served) in
    subst (λ (z : ℤ). shows c.arith.new.self m ULong c.in_ok-end.end z) (summed n c.args.size) (c.in_ok-end.ensures.value m (pos n) (pos c.args.size) (k1.served m served) (k1.shown m _ _ _ h) size)

pub returns-clause-charge : goal.returns-clause-charge
returns-clause-charge g c = omega (arith, c.in_ok-size.ensures.charge, c.in_ok-end.ensures.charge)

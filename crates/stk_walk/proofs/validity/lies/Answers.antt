use Rattle.std.proofs.Common.{◌-◌, ◌^◌, ◌≤◌, ℤ, Bool, pos, subst, arith}
use Rattle.stk_ctype.specs.declared.kind.IntKind.TheVariants.{Int, ULong}
use Rattle.stk_values.specs.Keeping.{truth}
use Rattle.stk_walk.proofs.Compared.{begins, ends, stays}
use Rattle.stk_walk.proofs.validity.lies.Goals as goal

pub returns-clause-value : goal.returns-clause-value
returns-clause-value g c = λ m n served h.
    let shows = g.V.Values.shows in
    let k1 = c.zero.ensures.keeps in
    let k2 = c.compare.ensures.keeps in
    let k3 = c.constant.ensures.keeps in
    let k4 = c.compare-2.ensures.keeps in
    let s1 = k1.served m served in
    let s2 = k2.served m s1 in
    let s3 = k3.served m s2 in
    let s4 = k4.served m s3 in
    let at1 = k1.shown m _ _ _ h in
    let at3 = k3.shown m _ _ _ (k2.shown m _ _ _ at1) in
    let few : c.args.size ≤ 2 ^ 64 - 1 = omega (arith, c.ranges.size.fits) in
    let first = subst (λ (b : Bool). shows c.compare.new.self m Int c.in_ok-begins.begins (truth b)) (begins n) (c.in_ok-begins.ensures.value m (pos n) (pos 0) s1 at1 (c.in_ok-none.ensures.value m served)) in
    let last = subst (λ (z : ℤ). shows c.constant.new.self m ULong c.in_ok-last.last z) (stays (2 ^ 64 - 1 - c.args.size) c.from.result (omega arith) c.from.ensures) (c.in_ok-last.ensures.value m s2) in
    let second = subst (λ (b : Bool). shows c.compare-2.new.self m Int c.in_ok-ends.ends (truth b)) (ends n c.args.size few) (c.in_ok-ends.ensures.value m (pos n) (pos (2 ^ 64 - 1 - c.args.size)) s3 at3 last) in
    c.in_ok-both.ensures.value m _ _ s4 (k4.shown m _ _ _ (k3.shown m _ _ _ first)) second

pub returns-clause-charge : goal.returns-clause-charge
returns-clause-charge g c = omega (arith, c.in_ok-none.ensures.charge, c.in_ok-begins.ensures.charge, c.in_ok-last.ensures.charge, c.in_ok-ends.ensures.charge, c.in_ok-both.ensures.charge)

use Rattle.std.proofs.Common.{pos, subst, arith}
use Rattle.stk_ctype.specs.declared.kind.IntKind.TheVariants.{Int}
use Rattle.stk_values.specs.Keeping.{truth}
use Rattle.stk_walk.specs.Located.{wrapped_end}
use Rattle.stk_walk.proofs.Compared.{before}
use Rattle.stk_walk.proofs.validity.apart.Goals as goal

pub returns-clause-value : goal.returns-clause-value
returns-clause-value g c = λ m a served hx hy.
    let shows = g.V.Values.shows in
    let x = c.args.x.now.object in
    let y = c.args.y.now.object in
    let k1 = c.compare.ensures.keeps in
    let k2 = c.compare-2.ensures.keeps in
    let k3 = c.both.ensures.keeps in
    let s1 = k1.served m served in
    let s2 = k2.served m s1 in
    let s3 = k3.served m s2 in
    let first = subst (λ b. shows c.compare.new.self m Int c.in_ok-first.first (truth b)) (before (a x.node) (wrapped_end a y)) (c.in_ok-first.ensures.value m (pos (a x.node)) (pos (wrapped_end a y)) served hx.address hy.end) in
    let second = subst (λ b. shows c.compare-2.new.self m Int c.in_ok-second.second (truth b)) (before (a y.node) (wrapped_end a x)) (c.in_ok-second.ensures.value m (pos (a y.node)) (pos (wrapped_end a x)) s1 (k1.shown m _ _ _ hy.address) (k1.shown m _ _ _ hx.end)) in
    c.in_ok-found.ensures.value m _ s3 (c.in_ok-shared.ensures.value m _ _ s2 (k2.shown m _ _ _ first) second)

pub returns-clause-charge : goal.returns-clause-charge
returns-clause-charge g c = omega (arith, c.in_ok-first.ensures.charge, c.in_ok-second.ensures.charge, c.in_ok-shared.ensures.charge, c.in_ok-found.ensures.charge)

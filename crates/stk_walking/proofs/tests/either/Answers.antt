use Rattle.std.proofs.Common.{Bool, true, false, ◌&&◌, ◌||◌, not, ◌≡◌, refl, subst, arith}
use Rattle.stk_ctype.specs.declared.kind.IntKind.TheVariants.{Int}
use Rattle.stk_meaning.specs.Operations.{bit}
use Rattle.stk_walking.proofs.tests.either.Goals as goal

either_is : (a b : Bool) → not (not a && not b) ≡ (a || b)
either_is true b = refl
either_is false true = refl
either_is false false = refl

pub returns-clause-value : goal.returns-clause-value
returns-clause-value g c = λ m a b served l r.
    let shows = g.V.Values.shows in
    let k1 = c.opposite.ensures.keeps in
    let k2 = c.opposite-2.ensures.keeps in
    let k3 = c.both.ensures.keeps in
    let s1 = k1.served m served in
    let s2 = k2.served m s1 in
    let s3 = k3.served m s2 in
    let x = c.in_ok-not_left.ensures.value m a served l in
    let y = c.in_ok-not_right.ensures.value m b s1 (k1.shown m _ _ _ r) in
    let n = c.in_ok-neither.ensures.value m (not a) (not b) s2 (k2.shown m _ _ _ x) y in
    let z = c.in_ok-found.ensures.value m (not a && not b) s3 n in
    subst (λ (t : Bool). shows c.opposite-3.new.self m Int c.in_ok-found.found (bit t)) (either_is a b) z

pub returns-clause-charge : goal.returns-clause-charge
returns-clause-charge g c = omega (arith, c.in_ok-not_left.ensures.charge, c.in_ok-not_right.ensures.charge, c.in_ok-neither.ensures.charge, c.in_ok-found.ensures.charge)

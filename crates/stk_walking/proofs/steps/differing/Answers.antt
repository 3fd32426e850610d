use Rattle.std.proofs.Common.{◌≡◌, Bool, true, false, ◌&&◌, ◌||◌, not, refl, subst, arith}
use Rattle.stk_ctype.specs.declared.kind.IntKind.TheVariants.{Int}
use Rattle.stk_meaning.specs.Operations.{bit}
use Rattle.stk_walking.specs.Events.{differs}
use Rattle.stk_walking.proofs.steps.differing.Goals as goal

differs_is : (a b : Bool) → ((a && not b) || (not a && b)) ≡ differs a b
differs_is true true = refl
differs_is true false = refl
differs_is false true = refl
differs_is false false = refl

pub returns-clause-value : goal.returns-clause-value
returns-clause-value g c = λ m a b served l r.
    let k1 = c.opposite.ensures.keeps in
    let k2 = c.both.ensures.keeps in
    let k3 = c.opposite-2.ensures.keeps in
    let k4 = c.both-2.ensures.keeps in
    let s1 = k1.served m served in
    let s2 = k2.served m s1 in
    let s3 = k3.served m s2 in
    let s4 = k4.served m s3 in
    let not_right = c.in_ok-not_right.ensures.value m b served r in
    let first = c.in_ok-first.ensures.value m a (not b) s1 (k1.shown m _ _ _ l) not_right in
    let not_left = c.in_ok-not_left.ensures.value m a s2 (k2.shown m _ _ _ (k1.shown m _ _ _ l)) in
    let right3 = k3.shown m _ _ _ (k2.shown m _ _ _ (k1.shown m _ _ _ r)) in
    let second = c.in_ok-second.ensures.value m (not a) b s3 not_left right3 in
    let first4 = k4.shown m _ _ _ (k3.shown m _ _ _ first) in
    let found = c.in_ok-found.ensures.value m (a && not b) (not a && b) s4 first4 second in
    subst (λ (t : Bool). g.V.Values.shows c.either.new.values m Int c.in_ok-found.found (bit t)) (differs_is a b) found

pub returns-clause-charge : goal.returns-clause-charge
returns-clause-charge g c = omega (arith, c.in_ok-not_right.ensures.charge, c.in_ok-first.ensures.charge, c.in_ok-not_left.ensures.charge, c.in_ok-second.ensures.charge, c.in_ok-found.ensures.charge)

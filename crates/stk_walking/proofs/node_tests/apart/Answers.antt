use Rattle.std.proofs.Common.{ℤ, pos, ◌-ℤ◌, subst, arith}
use Rattle.std.specs.Prelude.{int_lt}
use Rattle.stk_ctype.specs.declared.kind.IntKind.TheVariants.{ULong}
use Rattle.stk_numbers.specs.Kinds.{wrap}
use Rattle.stk_numbers.proofs.Residues.{residue_below}
use Rattle.stk_meaning.specs.Operations.{to_address}
use Rattle.stk_walking.proofs.Apart.{apart_is}
use Rattle.stk_walking.proofs.node_tests.apart.Goals as goal

pub returns-clause-value : goal.returns-clause-value
returns-clause-value g c = λ m x y served hx hy.
    let k1 = c.compare.ensures.keeps in
    let k2 = c.arith.ensures.keeps in
    let k3 = c.arith-2.ensures.keeps in
    let s1 = k1.served m served in
    let s2 = k2.served m s1 in
    let s3 = k3.served m s2 in
    let a = to_address x in
    let b = to_address y in
    let x1 = k1.shown m _ _ _ hx in
    let y1 = k1.shown m _ _ _ hy in
    let below = c.in_ok-below.ensures.value m (pos a) (pos b) served hx hy in
    let up = c.in_ok-up.ensures.value m (pos b) (pos a) s1 y1 x1 in
    let down = c.in_ok-down.ensures.value m (pos a) (pos b) s2 (k2.shown m _ _ _ x1) (k2.shown m _ _ _ y1) in
    let found = c.in_ok-found.ensures.value m (int_lt (pos a) (pos b)) (wrap ULong (pos b -ℤ pos a)) (wrap ULong (pos a -ℤ pos b)) s3 (k3.shown m _ _ _ (k2.shown m _ _ _ below)) (k3.shown m _ _ _ up) down in
    subst (λ (z : ℤ). g.V.Values.shows c.choose.new.self m ULong c.in_ok-found.found z) (apart_is a b (residue_below 64 x) (residue_below 64 y)) found

pub returns-clause-charge : goal.returns-clause-charge
returns-clause-charge g c = omega (arith, c.in_ok-below.ensures.charge, c.in_ok-up.ensures.charge, c.in_ok-down.ensures.charge, c.in_ok-found.ensures.charge)

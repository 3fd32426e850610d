use Rattle.stk_walking.proofs.Carried.{keeps_then}
use Rattle.stk_walking.proofs.Walking.{walks_cut}
use Rattle.std.proofs.Common.{refl, arith}
use Rattle.stk_walking.proofs.Costing.{costs_free}
use Rattle.stk_walk_values.proofs.steps.no_place.Goals as goal

pub returns-clause-walks : goal.returns-clause-walks
returns-clause-walks g c =
    let V = g.V.Values in
    let k1 = c.in_ok-none.ensures.keeps in
    let k2 = c.in_ok-guard.ensures.keeps in
    walks_cut (λ m. 0) c.in_ok-guard.guard (k2.made_still _ _ c.in_ok-none.ensures.makes) c.in_ok-guard.ensures.makes c.requires.ready.values_made (keeps_then V.serves V.has_key V.made V.shows _ _ _ k1 k2)
    (λ m served h. k2.shown m _ _ _ (c.in_ok-none.ensures.value m served)) (λ m served. c.in_ok-guard.ensures.value m (k1.served m served))

pub returns-clause-cost : goal.returns-clause-cost
returns-clause-cost g c = costs_free refl (omega (arith, c.in_ok-none.ensures.charge, c.in_ok-guard.ensures.charge))

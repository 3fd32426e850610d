use Rattle.std.proofs.Common.{◌≡◌, ◌⊎◌, ℕ, ◌*◌, ◌<◌, List, [], get_or, drop, refl, sym, ◌∙◌, ap, subst, arith}
use Rattle.stk_propagate.specs.WatchLists.{Chained}
use Rattle.stk_propagate.proofs.Links.{Spare, Links, links_taken}
use Rattle.stk_propagate.proofs.Plain.{links_plain}
use Rattle.stk_propagate.proofs.Visiting.{grown_refl, grown_trans}
use Rattle.stk_propagate.proofs.inner.Inner.visit_chain.Goals as goal

pub loop-place-init : goal.loop-place-init
loop-place-init c =
    let f = c.args.self.now in
    let l = c.requires.linked in
    record {
      sized = l.sized;
      fits = c.requires.fits;
      linked = links_plain f.chains.chains f.assigned.vars f.looked f.watches.items c.args.lit l.spare l.linked;
      calmed = λ x m h e. absurd (l.spare x h);
      grown = grown_refl f.assigned;
      head = refl;
      looked = refl;
    }

pub visit-requires-clause-linked : goal.visit-requires-clause-linked
visit-requires-clause-linked c =
    let g = c.loop-place.self in
    let w = c.args.lit in
    let cs = g.chains.chains in
    let vars = g.assigned.vars in
    let n = c.in-Some.place in
    let lt : w.0 < 2 * vars = omega (arith, c.loop-place.invariant.grown.vars, c.requires.below) in
    let e = ap (λ (k : Chained). k.chains) c.in-Some.ensures.rest in
    subst (λ (ds : List (List ℕ)). Links ds vars g.looked g.watches.items w (λ x. Spare ds vars x ⊎ (x ≡ n))) (sym e)
    (links_taken cs vars g.looked g.watches.items w n (drop 1 (get_or cs w.0 [])) lt c.loop-place.invariant.sized.many c.in-Some.ensures.first c.loop-place.invariant.linked)

pub returns-then-visit-clause-grown : goal.returns-then-visit-clause-grown
returns-then-visit-clause-grown c = grown_trans c.args.self.now.assigned c.loop-place.self.assigned c.visit.new.self.assigned c.loop-place.invariant.grown c.visit.ensures.grown

pub loop-place-preserved : goal.loop-place-preserved
loop-place-preserved c =
    let e = c.visit.ensures in
    let i = c.loop-place.invariant in
    record {
      sized = e.sized;
      fits = e.fits;
      linked = e.linked;
      calmed = c.if-visit.ensures.found;
      grown = grown_trans c.args.self.now.assigned c.loop-place.self.assigned c.visit.new.self.assigned i.grown e.grown;
      head = e.head ∙ i.head;
      looked = e.looked ∙ i.looked;
    }

pub returns-clause-linked : goal.returns-clause-linked
returns-clause-linked c =
    let g = c.loop-place.self in
    let vars = g.assigned.vars in
    let same : c.take_first.new.self ≡ g.chains = c.in_default.ensures.free in
    subst (λ (k : Chained). Links k.chains vars g.looked g.watches.items c.args.lit (Spare k.chains vars)) (sym same) c.loop-place.invariant.linked

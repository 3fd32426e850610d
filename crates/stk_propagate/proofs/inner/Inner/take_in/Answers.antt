use Rattle.std.proofs.Common.{◌≡◌, ◌≤◌, ◌<◌, ◌+◌, ◌^◌, List, [], ◌∷◌, ◌++◌, length, get_or, take, sym, ◌∙◌, ap, subst, arith}
use Rattle.std.proofs.lemmas.List.{length-take, take_more}
use Rattle.stk_clauses.specs.declared.literal.Lit.{Lit}
use Rattle.stk_propagate.specs.WatchLists.{Chained}
use Rattle.stk_propagate.specs.Fitting.{IsWatched, Fits}
use Rattle.stk_propagate.specs.Linked.{trailed}
use Rattle.stk_propagate.proofs.Links.{Watches}
use Rattle.stk_propagate.proofs.Fits.{fits_taken}
use Rattle.stk_propagate.proofs.Alive.{settled_before}
use Rattle.stk_propagate.proofs.Steps.{LinkedAs, linked_as, as_linked, linked_taken}
use Rattle.stk_propagate.proofs.inner.Inner.take_in.Goals as goal

pub returns-in_err-reserve-clause-linked : goal.returns-in_err-reserve-clause-linked
returns-in_err-reserve-clause-linked c =
    let f = c.args.self.now in
    as_linked _ (subst (λ (ws : Watches). LinkedAs f.chains f.assigned.vars f.looked ws) (sym c.reserve.ensures.items) (linked_as f c.requires.linked))

pub returns-in_err-grow-clause-linked : goal.returns-in_err-grow-clause-linked
returns-in_err-grow-clause-linked c =
    let f = c.args.self.now in
    as_linked _
    (subst (λ (k : Chained). LinkedAs k f.assigned.vars f.looked c.reserve.new.self.items) (sym c.in_err-grow.ensures.kept)
    (subst (λ (ws : Watches). LinkedAs f.chains f.assigned.vars f.looked ws) (sym c.reserve.ensures.items) (linked_as f c.requires.linked)))

pub returns-clause-linked : goal.returns-clause-linked
returns-clause-linked c =
    let f = c.args.self.now in
    let w = c.first_two-watch.result in
    let ws : Watches = f.watches.items in
    let g = c.grow.new.self in
    let items : c.push.new.self.items ≡ ws ++ w ∷ [] = c.in_default.ensures.items ∙ ap (λ (xs : Watches). xs ++ w ∷ []) c.reserve.ensures.items in
    let ec : g.chains ≡ f.chains.chains = ap (λ (k : Chained). k.chains) c.in_ok-grow.ensures.grown in
    let en : g.numbers ≡ f.chains.numbers + 2 = ap (λ (k : Chained). k.numbers) c.in_ok-grow.ensures.grown in
    let le : f.looked ≤ length ws = omega (arith, c.requires.fits.looking, c.requires.fits.counted) in
    let few : length ws + 1 < 2 ^ 31 = omega (arith, c.requires.fits.counted, length-take c.args.id c.args.store.now, c.count.ensures.count, c.count.ensures.few, c.requires.exists) in
    as_linked _ (subst (λ (vs : Watches). LinkedAs g f.assigned.vars f.looked vs) (sym items) (linked_taken f.chains g.chains g.numbers f.assigned.vars f.looked ws w ec en le few (linked_as f c.requires.linked)))

pub returns-clause-fits : goal.returns-clause-fits
returns-clause-fits c =
    let f = c.args.self.now in
    let cs = c.args.store.now in
    let id = c.args.id in
    let w = c.first_two-watch.result in
    let ws : Watches = f.watches.items in
    let cl : List Lit = get_or cs id [] in
    let items : c.push.new.self.items ≡ ws ++ w ∷ [] = c.in_default.ensures.items ∙ ap (λ (xs : Watches). xs ++ w ∷ []) c.reserve.ensures.items in
    let here = subst (λ (ys : List Lit). IsWatched ys w) c.clause.ensures.clause c.first_two-watch.ensures in
    let more : take (id + 1) cs ≡ take id cs ++ cl ∷ [] = take_more cs id [] c.requires.exists in
    subst (λ (xs : List (List Lit)). Fits (record { assigned = f.assigned; watches = c.push.new.self.items; propagated = f.head; looked = f.looked }) xs) (sym more)
    (fits_taken (trailed f) c.push.new.self.items (take id cs) cl w c.requires.fits c.requires.below items here (settled_before f.assigned cl c.requires.alive c.requires.timely))

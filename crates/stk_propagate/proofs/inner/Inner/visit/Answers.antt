use Rattle.std.proofs.Common.{◌≡◌, ◌≢◌, ℕ, ◌*◌, ◌/◌, ◌<◌, List, [], get_or, refl, sym, ◌∙◌, ap, subst, inr, arith, Option, Some, None}
use Rattle.std.specs.List.{Contains}
use Rattle.stk_clauses.specs.declared.literal.Lit.{Lit}
use Rattle.stk_clauses.specs.Propagation.{AllFalse}
use Rattle.stk_propagate.specs.declared.inner.Inner.{Inner}
use Rattle.stk_propagate.specs.Fitting.{IsReason, IsWatched, Fits}
use Rattle.stk_propagate.specs.Linked.{trailed, watch_at, pair_of, InSpareOr, AreLinked, AreCalmed}
use Rattle.stk_propagate.proofs.Lists.{no_pair}
use Rattle.stk_propagate.proofs.Calm.{watched_pair}
use Rattle.stk_propagate.proofs.Visiting.{grown_true, calmed_kept, calmed_moved, fits_moved, reason_here, found_map}
use Rattle.stk_propagate.proofs.Steps.{are_linked_assigned, spare_assigned}
use Rattle.stk_propagate.proofs.inner.Inner.visit.Goals as goal

-- the place watches the literal, and its clause was looked at
watching : (f : Inner) (w : Lit) (n : ℕ) → w.0 < 2 * f.assigned.vars → AreLinked f w (InSpareOr f n) → (n / 2 < f.looked) × (watch_at f.watches.items n ≡ Some w)
watching f w n lt linked = (linked w n lt).0 (inr (refl, inr refl))

-- the clause has both, and they differ
both : (f : Inner) (cs : List (List Lit)) (n : ℕ) (w o : Lit) → Fits (trailed f) cs → n / 2 < f.looked → get_or f.watches.items (n / 2) None ≡ Some (pair_of n w o) → Contains (get_or cs (n / 2) []) w × Contains (get_or cs (n / 2) []) o × (w ≢ o)
both f cs n w o fits lt pair = watched_pair n w o (get_or cs (n / 2) []) (subst (λ (v : Option (Lit × Lit)). IsWatched (get_or cs (n / 2) []) v) pair (fits.watched (n / 2) (omega (arith, lt, fits.looking))))

-- only the chains changed
true_still : (f k : Inner) (m : Lit) → k ≡ record f { chains = k.chains } → Contains f.assigned.literals m → Contains k.assigned.literals m
true_still f k m e h = subst (λ (x : Inner). Contains x.assigned.literals m) (sym e) h

pub other_watch-other-requires-clause-watches : goal.other_watch-other-requires-clause-watches
other_watch-other-requires-clause-watches c = (watching c.args.self.now c.args.lit c.args.place c.requires.below c.requires.linked).1

pub next_watch-requires-clause-watched : goal.next_watch-requires-clause-watched
next_watch-requires-clause-watched c =
    let f = c.args.self.now in
    both f c.args.store.now c.args.place c.args.lit c.other_watch-other.result c.requires.fits (watching f c.args.lit c.args.place c.requires.below c.requires.linked).0 c.other_watch-other.ensures

pub returns-then-is_true-clause-found : goal.returns-then-is_true-clause-found
returns-then-is_true-clause-found c =
    let f = c.args.self.now in
    let k = c.keep.new.self in
    let rest = c.keep.ensures.rest in
    let o = c.other_watch-other.result in
    calmed_kept f k c.args.place c.args.lit o (ap (λ (x : Inner). x.watches.items) rest) c.keep.ensures.spare (λ m h. true_still f k m rest h) (true_still f k o rest (c.if-is_true.ensures.0 refl)) c.other_watch-other.ensures c.requires.calmed

pub move_to-requires-clause-looked : goal.move_to-requires-clause-looked
move_to-requires-clause-looked c = (watching c.args.self.now c.args.lit c.args.place c.requires.below c.requires.linked).0

pub force-requires-clause-reason : goal.force-requires-clause-reason
force-requires-clause-reason c =
    let f = c.args.self.now in
    let cs = c.args.store.now in
    let n = c.args.place in
    let w = c.args.lit in
    let o = c.other_watch-other.result in
    let cl : List Lit = get_or cs (n / 2) [] in
    let pair = both f cs n w o c.requires.fits (watching f w n c.requires.below c.requires.linked).0 c.other_watch-other.ensures in
    subst (λ (x : Inner). IsReason x.assigned.literals cl o) (sym c.keep-in-None.ensures.rest) (reason_here f.assigned.literals cl w o pair.1 c.requires.falsified c.in-None.ensures)

pub returns-in-Some-clause-fits : goal.returns-in-Some-clause-fits
returns-in-Some-clause-fits c =
    let f = c.args.self.now in
    let cs = c.args.store.now in
    let t = f.assigned.literals in
    let n = c.args.place in
    let w = c.args.lit in
    let to = c.in-Some.to in
    let o = c.other_watch-other.result in
    let found = c.in-Some.ensures in
    subst (λ (x : Inner). Fits (trailed x) cs) (sym c.move_to.ensures.rest)
    (fits_moved (trailed f) c.move_to.new.self.watches.items cs n w to o c.requires.fits (no_pair t c.vars.ensures.facts.fresh) (watching f w n c.requires.below c.requires.linked).0 c.other_watch-other.ensures c.move_to.ensures.watches c.requires.falsified found.0 found.2 found.3)

pub returns-in-Some-clause-found : goal.returns-in-Some-clause-found
returns-in-Some-clause-found c =
    let f = c.args.self.now in
    let g = c.move_to.new.self in
    let n = c.args.place in
    let w = c.args.lit in
    let o = c.other_watch-other.result in
    let pair = both f c.args.store.now n w o c.requires.fits (watching f w n c.requires.below c.requires.linked).0 c.other_watch-other.ensures in
    calmed_moved f g n w c.in-Some.to o c.requires.below pair.2 (ap (λ (x : Inner). x.assigned) c.move_to.ensures.rest) c.move_to.ensures.watches c.move_to.ensures.spare c.other_watch-other.ensures c.requires.free c.requires.linked c.requires.calmed

pub returns-in-None-clause-linked : goal.returns-in-None-clause-linked
returns-in-None-clause-linked c = are_linked_assigned c.keep-in-None.new.self c.force.new.self c.args.lit c.force.ensures.rest c.force.ensures.grown.vars c.keep-in-None.ensures.linked

pub returns-in-None-clause-found : goal.returns-in-None-clause-found
returns-in-None-clause-found c =
    let f = c.args.self.now in
    let k = c.keep-in-None.new.self in
    let g = c.force.new.self in
    let rest = c.keep-in-None.ensures.rest in
    let o = c.other_watch-other.result in
    let same : g.watches.items ≡ f.watches.items = ap (λ (x : Inner). x.watches.items) c.force.ensures.rest ∙ ap (λ (x : Inner). x.watches.items) rest in
    found_map c.force.result (AllFalse g.assigned.literals (get_or c.args.store.now (c.args.place / 2) [])) (Contains g.assigned.literals o) (AreCalmed g)
    (λ h. calmed_kept f g c.args.place c.args.lit o same (λ y m. c.keep-in-None.ensures.spare y (spare_assigned k g y c.force.ensures.rest c.force.ensures.grown.vars m)) (λ m q. grown_true k.assigned g.assigned m c.force.ensures.grown (true_still f k m rest q)) h c.other_watch-other.ensures c.requires.calmed)
    c.force.ensures.found

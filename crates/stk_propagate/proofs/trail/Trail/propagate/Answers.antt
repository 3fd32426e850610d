use Rattle.std.proofs.Common.{◌≡◌, ℕ, ◌<◌, [], length, get_or, subst, Option}
use Rattle.std.specs.Option.{MatchOption}
use Rattle.std.specs.List.{Contains}
use Rattle.stk_clauses.specs.declared.literal.Lit.{Lit}
use Rattle.stk_clauses.specs.Propagation.{Forced, Falsifies, AllFalse, AreQuiet}
use Rattle.stk_propagate.specs.Trailed.{Trailed}
use Rattle.stk_propagate.specs.Fitting.{IsCalm}
use Rattle.stk_propagate.specs.Linked.{trailed}
use Rattle.stk_propagate.proofs.Forcing.{forced_grown}
use Rattle.stk_propagate.proofs.Ends.{calm_all, quiet_all, found_none, when_none, all_forced}
use Rattle.stk_propagate.proofs.trail.Trail.propagate.Goals as goal

pub returns-clause-found : goal.returns-clause-found
returns-clause-found c =
    let g = c.propagate.new.self in
    let cs = c.args.store.now in
    let e = c.propagate.ensures in
    let t = g.assigned.literals in
    found_none c.propagate.result ((g.looked ≡ length cs) × (g.head ≡ length t)) (AreQuiet t cs) (λ (id : ℕ). (id < length cs) × AllFalse t (get_or cs id [])) (λ h. quiet_all (trailed g) cs e.fits h.0 h.1) e.found

pub returns-clause-watches : goal.returns-clause-watches
returns-clause-watches c =
    let g = c.propagate.new.self in
    let cs = c.args.store.now in
    let e = c.propagate.ensures in
    let t = g.assigned.literals in
    λ is id a b lt w.
    let h = when_none c.propagate.result ((g.looked ≡ length cs) × (g.head ≡ length t)) (λ (n : ℕ). (n < length cs) × AllFalse t (get_or cs n [])) is e.found in
    subst (λ (v : Option (Lit × Lit)). IsCalm t t (get_or cs id []) v) w (calm_all (trailed g) cs e.fits h.0 h.1 id lt)

pub returns-clause-forced : goal.returns-clause-forced
returns-clause-forced c =
    let cs = c.args.store.now in
    let e = c.propagate.ensures in
    λ l h. subst (λ (s : Trailed). Forced cs (Contains s.assigned.literals) l) c.self.view_is (forced_grown c.self.inside.inner.assigned c.propagate.new.self.assigned cs e.before.paired e.facts.paired e.grown e.fits.reasons l h)

pub returns-clause-all_forced : goal.returns-clause-all_forced
returns-clause-all_forced c =
    let g = c.propagate.new.self in
    let cs = c.args.store.now in
    let e = c.propagate.ensures in
    let t = g.assigned.literals in
    let found = found_none c.propagate.result ((g.looked ≡ length cs) × (g.head ≡ length t)) (AreQuiet t cs) (λ (id : ℕ). (id < length cs) × AllFalse t (get_or cs id [])) (λ h. quiet_all (trailed g) cs e.fits h.0 h.1) e.found in
    subst (λ (s : Trailed). MatchOption c.propagate.result ((l : Lit) → Forced cs (Contains s.assigned.literals) l → Contains t l) (λ _. Falsifies cs (Contains s.assigned.literals))) c.self.view_is
    (all_forced c.propagate.result c.self.inside.inner.assigned g.assigned cs e.before e.facts e.grown e.fits.reasons found)

use Rattle.std.proofs.Common.{◌≡◌, ℕ, ◌+◌, ◌*◌, ◌<◌, [], length, get_or, sym, subst, arith}
use Rattle.std.specs.List.{Contains}
use Rattle.std.proofs.lemmas.List.{get_or_default}
use Rattle.stk_clauses.specs.declared.literal.Lit.{Lit}
use Rattle.stk_clauses.specs.Literals.{negated}
use Rattle.stk_clauses.specs.Propagation.{AllFalse}
use Rattle.stk_clauses.proofs.Values.{negated-negated}
use Rattle.stk_propagate.specs.declared.inner.Inner.{Inner}
use Rattle.stk_propagate.specs.Fitting.{Fits}
use Rattle.stk_propagate.specs.Linked.{trailed}
use Rattle.stk_propagate.proofs.Fits.{IsDone, fits_walked}
use Rattle.stk_propagate.proofs.Visiting.{grown_length}
use Rattle.stk_propagate.proofs.Walks.{walked_done, walked_below, gone_through, stands_still}
use Rattle.stk_propagate.proofs.inner.Inner.walk.Goals as goal

pub visit_chain-found-requires-clause-falsified : goal.visit_chain-found-requires-clause-falsified
visit_chain-found-requires-clause-falsified c =
    let f = c.args.self.now in
    let t = f.assigned.literals in
    let d : Lit = record { 0 = 0 } in
    let e = gone_through t c.literals.result.now c.negated-lit.result d f.head c.literals.ensures.literals c.negated-lit.ensures in
    subst (λ (y : Lit). Contains t y) (sym e) (f.head, c.requires.some, get_or_default t f.head (get_or t f.head d) d c.requires.some)

pub returns-in-None-clause-fits : goal.returns-in-None-clause-fits
returns-in-None-clause-fits c =
    let f = c.args.self.now in
    let v = c.visit_chain-found.new.self in
    let g = c.restore.new.self in
    let cs = c.args.store.now in
    let l = c.negated-lit.result in
    let d : Lit = record { 0 = 0 } in
    let rest = c.restore.ensures.rest in
    let said = c.visit_chain-found.ensures in
    let p : Lit = negated l in
    let head : v.head ≡ f.head = said.head in
    let lt : v.head < length v.assigned.literals = omega (arith, head, c.requires.some, grown_length f.assigned v.assigned said.grown) in
    let e = gone_through f.assigned.literals c.literals.result.now l d f.head c.literals.ensures.literals c.negated-lit.ensures in
    let still = stands_still f.assigned v.assigned p d f.head said.grown c.requires.some e in
    let there : p ≡ get_or v.assigned.literals v.head p = subst (λ (n : ℕ). p ≡ get_or v.assigned.literals n p) (sym head) still in
    let below : l.0 < 2 * v.assigned.vars = omega (arith, walked_below f.assigned.vars f.assigned.literals l d f.head c.literals.ensures.facts.within c.requires.some e, said.grown.vars) in
    let done = walked_done v l below said.linked c.in-None.ensures.found.0 c.in-None.ensures.found.1 in
    let done' = subst (λ (y : Lit). IsDone (trailed v) y) (sym (negated-negated l)) done in
    let end : Fits (record (trailed v) { propagated = v.head + 1 }) cs = fits_walked (trailed v) cs p said.fits lt there done' in
    subst (λ (x : Inner). Fits (record (trailed x) { propagated = x.head + 1 }) cs) (sym rest) end

pub returns-in_default-clause-found : goal.returns-in_default-clause-found
returns-in_default-clause-found c =
    let cs = c.args.store.now in
    let id = c.in_default.field-0 in
    rw c.in_default.is (subst (λ (x : Inner). (id < length cs) × AllFalse x.assigned.literals (get_or cs id [])) (sym c.restore.ensures.rest) c.in_default.ensures.found)

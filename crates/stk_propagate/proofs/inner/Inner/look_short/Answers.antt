use Rattle.std.proofs.Common.{◌≡◌, ℕ, ◌<◌, List, [], length, get_or, sym, ◌∙◌, ap, subst, arith, None}
use Rattle.std.specs.List.{Contains}
use Rattle.stk_clauses.specs.declared.literal.Lit.{Lit}
use Rattle.stk_propagate.specs.declared.inner.Inner.{Inner}
use Rattle.stk_propagate.specs.Linked.{trailed}
use Rattle.stk_propagate.proofs.Looks.{fits_short, watched_short}
use Rattle.stk_propagate.proofs.Steps.{linked_assigned, linked_as, as_linked, linked_short}
use Rattle.stk_propagate.proofs.inner.Inner.look_short.Goals as goal

pub returns-clause-linked : goal.returns-clause-linked
returns-clause-linked c =
    let f = c.args.self.now in
    let g = c.force.new.self in
    let cs = c.args.store.now in
    let l = linked_assigned f g c.force.ensures.rest c.force.ensures.grown.vars c.requires.linked in
    let e : g.looked ≡ f.looked = ap (λ (x : Inner). x.looked) c.force.ensures.rest in
    let short : length (get_or cs g.looked []) < 2 = subst (λ (n : ℕ). length (get_or cs n []) < 2) (sym e) c.requires.short in
    let none : get_or g.watches.items g.looked None ≡ None = watched_short (get_or cs g.looked []) (get_or g.watches.items g.looked None) short (c.force.ensures.fits.watched g.looked (omega (arith, e, c.requires.more))) in
    as_linked _ (linked_short g.chains g.assigned.vars g.looked g.watches.items none (linked_as g l))

pub returns-clause-fits : goal.returns-clause-fits
returns-clause-fits c =
    let f = c.args.self.now in
    let g = c.force.new.self in
    let cs = c.args.store.now in
    let d : Lit = record { 0 = 0 } in
    let e : g.looked ≡ f.looked = ap (λ (x : Inner). x.looked) c.force.ensures.rest in
    let is : c.clause-clause.result.now ≡ get_or cs g.looked [] = c.clause-clause.ensures.clause ∙ ap (λ (n : ℕ). get_or cs n []) (sym e) in
    let short : length (get_or cs g.looked []) < 2 = subst (λ (n : ℕ). length (get_or cs n []) < 2) (sym e) c.requires.short in
    let some : 0 < length (get_or cs g.looked []) = omega (arith, ap length is, c.if-clause-eq0.false) in
    fits_short (trailed g) cs d c.force.ensures.fits (omega (arith, e, c.requires.more)) short some (subst (λ (ys : List Lit). Contains g.assigned.literals (get_or ys 0 d)) is c.if-force.ensures.found)

pub returns-then-force-clause-linked : goal.returns-then-force-clause-linked
returns-then-force-clause-linked c = linked_assigned c.args.self.now c.force.new.self c.force.ensures.rest c.force.ensures.grown.vars c.requires.linked

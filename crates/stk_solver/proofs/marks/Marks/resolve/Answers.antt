use Rattle.std.proofs.Common.{◌≡◌, ◌<◌, ◌∷◌, ◌++◌, ◌∙◌, [], false, List, length, get_or, set, ap, subst, sym, arith, Some}
use Rattle.stk_clauses.specs.declared.literal.Lit.{Lit}
use Rattle.std.proofs.lemmas.List.{get_or_default}
use Rattle.stk_solver.specs.Marking.{Marked}
use Rattle.stk_solver.specs.Guides.{Guided}
use Rattle.stk_solver.proofs.Marking.{AreMarkedToo}
use Rattle.stk_solver.proofs.Leading.{guided_resolved, step_replaced, step_put}
use Rattle.stk_solver.proofs.marks.Marks.resolve.Goals as goal
use Rattle.stk_solver.proofs.marks.Marks.resolve.Goals.{In_ok-push}

abbrev zero_lit : Lit
zero_lit = record { 0 = 0 }

pub clause-requires : goal.clause-requires
clause-requires c = (c.requires.fits.reasons c.args.place c.args.id zero_lit c.requires.exists c.requires.reason).0

module _ (c : In_ok-push) where
  abbrev t : List Lit
  t = c.args.trail.now.assigned.literals

  abbrev p : Lit
  p = get_or t c.args.place zero_lit

  below : p.0 < length c.args.self.now.marked.items
  below = omega (arith, c.assigned.ensures.facts.within c.args.place zero_lit c.requires.exists, c.requires.vars, c.requires.noted.sized)

  done : AreMarkedToo (set c.args.self.now.marked.items p.0 false) c.mark_others.new.self.marked.items (get_or c.args.store.now c.args.id []) (Some p)
  done =
      let o = c.args.self.now.marked.items in
      let n = c.mark_others.new.self.marked.items in
      let e = subst (λ ms. AreMarkedToo ms n c.clause.result.now (Some (get_or c.assigned.result.now c.args.place zero_lit))) c.unmark.ensures.marked c.in_ok-mark_others.ensures.marked in
      let f = subst (λ ys. AreMarkedToo (set o (get_or ys c.args.place zero_lit).0 false) n c.clause.result.now (Some (get_or ys c.args.place zero_lit))) c.assigned.ensures.literals e in
      subst (λ cl. AreMarkedToo (set o p.0 false) n cl (Some p)) c.clause.ensures.clause f

pub returns-clause-guided : goal.returns-clause-guided
returns-clause-guided c k d lt marked g =
    let q = c.requires in
    let ts = c.args.trail.now.assigned.literals in
    let old = c.args.self.now.marked.items in
    let new = c.mark_others.new.self.marked.items in
    let cs = c.args.store.now in
    let back = c.args.self.now.hints.items in
    let why = q.fits.reasons c.args.place c.args.id zero_lit q.exists q.reason in
    let step = step_replaced cs ts c.args.place c.args.id zero_lit old new why.1 (below c) (done c) q.exists in
    let put = step_put cs ts c.args.place c.args.id zero_lit old new why.1 (below c) (done c) in
    let here : Marked old (get_or ts c.args.place zero_lit) = subst (λ y. Marked old y) (get_or_default ts c.args.place d zero_lit q.exists) marked in
    let hints : c.push.new.self.items ≡ back ++ c.args.id ∷ [] = c.in_ok-push.ensures.items ∙ ap (λ h. h.items ++ c.args.id ∷ []) c.in_ok-mark_others.ensures.hints ∙ ap (λ h. h.items ++ c.args.id ∷ []) c.unmark.ensures.hints in
    subst (λ hs. Guided cs ts c.args.place new hs) (sym hints)
    (guided_resolved cs ts c.args.place k c.args.id zero_lit old new back c.assigned.ensures.facts.fresh q.exists lt why here step put g)

pub returns-clause-replaced : goal.returns-clause-replaced
returns-clause-replaced c =
    let q = c.requires in
    let why = q.fits.reasons c.args.place c.args.id zero_lit q.exists q.reason in
    step_replaced c.args.store.now c.args.trail.now.assigned.literals c.args.place c.args.id zero_lit c.args.self.now.marked.items c.mark_others.new.self.marked.items why.1 (below c) (done c) q.exists

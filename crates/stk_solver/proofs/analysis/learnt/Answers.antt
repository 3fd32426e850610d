use Rattle.std.proofs.Common.{◌≡◌, ◌-◌, ◌∙◌, ℕ, List, length, get_or, take, reverse, ap, subst, sym, arith}
use Rattle.std.proofs.lemmas.List.{get_or_default}
use Rattle.stk_clauses.specs.declared.literal.Lit.{Lit}
use Rattle.stk_clauses.specs.Literals.{AreBelow}
use Rattle.stk_clauses.specs.Hints.{IsByHints}
use Rattle.stk_solver.specs.Learnt.{IsAsserting}
use Rattle.stk_solver.proofs.LearntClauses.{learnt_by_hints, learnt_asserting, learnt_new, quiet_at}
use Rattle.stk_solver.proofs.analysis.learnt.Goals as goal
use Rattle.stk_solver.proofs.analysis.learnt.Goals.{After-from_vec-2}

pub to_point-requires-clause-quiet : goal.to_point-requires-clause-quiet
to_point-requires-clause-quiet c =
    let q = c.requires in
    quiet_at c.args.trail.now c.args.store.now (get_or c.args.levels.now (length c.args.levels.now - 1) 0) q.fits (q.levels.known (length c.args.levels.now - 1) (omega (arith, q.some))) q.full

module _ (c : After-from_vec-2) where
  abbrev t : List Lit
  t = c.args.trail.now.assigned.literals

  abbrev low : ℕ
  low = get_or c.args.levels.now (length c.args.levels.now - 1) 0

  abbrev p : Lit
  p = get_or c.assigned.result.now c.in_ok-point.point (record { 0 = 0 })

  point_is : p ≡ get_or t c.in_ok-point.point p
  point_is = ap (λ ys. get_or ys c.in_ok-point.point (record { 0 = 0 })) c.assigned.ensures.literals ∙ get_or_default t c.in_ok-point.point (record { 0 = 0 }) p c.in_ok-point.ensures.point.exists

  asserting : IsAsserting (take low t) c.from_vec.result
  asserting =
      let e = c.in_ok-clause.ensures in
      subst (λ y. IsAsserting (take low t) y) (sym c.from_vec.ensures)
      (learnt_asserting t low c.in_ok-point.point p c.shorten.new.self.marked.items c.in_ok-clause.clause.items e.first.0 c.assigned.ensures.facts.fresh point_is c.in_ok-shorten.ensures.point e.each e.distinct e.first.1)

pub returns-clause-by_hints : goal.returns-clause-by_hints
returns-clause-by_hints c =
    let ts = c.args.trail.now.assigned.literals in
    let vars = c.args.marks.now.vars in
    let cs = c.args.store.now in
    let m = c.shorten.new.self in
    let e = c.in_ok-clause.ensures in
    let below = subst (λ v. AreBelow v ts) c.requires.vars c.assigned.ensures.facts.within in
    let by' = learnt_by_hints cs ts m.marked.items m.hints.items c.in_ok-clause.clause.items c.assigned.ensures.facts.fresh c.in_ok-shorten.ensures.guided e.each vars below in
    let hints : c.from_vec-2.result ≡ reverse m.hints.items = c.from_vec-2.ensures ∙ c.in_ok-hints.ensures ∙ ap (λ h. reverse h.items) e.hints in
    subst (λ hs. IsByHints vars cs c.from_vec.result hs) (sym hints) (subst (λ y. IsByHints vars cs y (reverse m.hints.items)) (sym c.from_vec.ensures) by')

pub returns-clause-fresh : goal.returns-clause-fresh
returns-clause-fresh c =
    let q = c.requires in
    let quiet = quiet_at c.args.trail.now c.args.store.now (get_or c.args.levels.now (length c.args.levels.now - 1) 0) q.fits (q.levels.known (length c.args.levels.now - 1) (omega (arith, q.some))) q.full in
    learnt_new c.args.store.now c.args.trail.now.assigned.literals c.from_vec.result (get_or c.args.levels.now (length c.args.levels.now - 1) 0) c.assigned.ensures.facts.fresh quiet (asserting c)

pub returns-clause-asserting : goal.returns-clause-asserting
returns-clause-asserting c = asserting c

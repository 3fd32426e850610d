use Rattle.std.proofs.Common.{◌≡◌, ◌-◌, ◌<◌, ◌≤◌, ◌∷◌, ◌∙◌, suc, ℕ, List, length, get_or, ap, subst, sym, refl, arith}
use Rattle.stk_clauses.specs.declared.literal.Lit.{Lit}
use Rattle.stk_clauses.specs.Literals.{AreBelow}
use Rattle.stk_solver.specs.Jumping.{IsDeep}
use Rattle.stk_solver.proofs.Timing.{alive_back, timely_back}
use Rattle.stk_solver.proofs.Returning.{search_back}
use Rattle.stk_solver.specs.declared.search.Search.{Search}
use Rattle.stk_solver.proofs.search.Search.back_from.Goals as goal
use Rattle.stk_solver.proofs.search.Search.back_from.Goals.{After-go_back}

pub kept_levels-kept-requires-clause-below : goal.kept_levels-kept-requires-clause-below
kept_levels-kept-requires-clause-below c k d lt =
    let e = c.in-Some.ensures.cases.0 in
    let below = subst (λ v. AreBelow v c.args.clause.now) (sym c.requires.search.same_vars) c.requires.below in
    let h = subst (λ ys. AreBelow c.args.self.now.trail.assigned.vars ys) e below in
    h (suc k) d (omega (arith, lt))

module _ (c : After-go_back) where
  abbrev s : Search
  s = c.args.self.now

  abbrev ls : List ℕ
  ls = s.levels.items

  abbrev first : Lit
  first = c.requires.asserting.0

  abbrev rest : List Lit
  rest = c.requires.asserting.1

  same_rest : c.in-Some.others.now ≡ rest
  same_rest =
      let e = c.in-Some.ensures.cases.0 in
      let f = c.requires.asserting.2 in
      let both : c.in-Some.field-0-0.now ∷ c.in-Some.others.now ≡ first ∷ rest = sym e ∙ f in
      cc

  fewer : c.kept_levels-kept.result < length ls
  fewer = subst (λ ys. c.kept_levels-kept.result < length ys) c.deref.ensures.value c.kept_levels-kept.ensures.fewer

  deep : 0 < c.kept_levels-kept.result → (k : ℕ) × IsDeep s.trail.assigned.literals rest k × (get_or ls (c.kept_levels-kept.result - 1) 0 ≤ k)
  deep some =
      let d = c.kept_levels-kept.ensures.deep some in
      (d.0, subst (λ ys. IsDeep s.trail.assigned.literals ys d.0) same_rest d.1, subst (λ ys. get_or ys (c.kept_levels-kept.result - 1) 0 ≤ d.0) c.deref.ensures.value d.2)

pub returns-clause-search : goal.returns-clause-search
returns-clause-search c =
    let e = c.go_back.ensures in
    search_back c.args.self.now c.go_back.new.self c.args._given.now (ap (λ (x : Search). x.vars) e.rest) (ap (λ (x : Search). x.store) e.rest) (ap (λ (x : Search). x.log) e.rest) (ap (λ (x : Search). x.analysis) e.rest)
    e.fits e.assigned e.assigned_vars e.levels c.requires.some c.requires.search

pub returns-clause-alive : goal.returns-clause-alive
returns-clause-alive c =
    let e = c.go_back.ensures in
    let q = c.requires in
    let xs = c.args.self.now.levels.items in
    alive_back c.args.self.now.trail.assigned c.go_back.new.self.trail.assigned xs c.go_back.new.self.levels.items c.kept_levels-kept.result (get_or xs c.kept_levels-kept.result 0) q.search.levels (fewer c) refl e.kept e.literals e.reasons
    q.search.assigned.fresh c.args.clause.now (first c) (rest c) q.asserting.2 q.asserting.3 q.asserting.4

pub returns-clause-timely : goal.returns-clause-timely
returns-clause-timely c =
    let e = c.go_back.ensures in
    let q = c.requires in
    let xs = c.args.self.now.levels.items in
    timely_back c.args.self.now.trail.assigned c.go_back.new.self.trail.assigned xs c.go_back.new.self.levels.items c.kept_levels-kept.result (get_or xs c.kept_levels-kept.result 0) q.search.levels (fewer c) refl e.kept e.literals e.reasons
    q.search.assigned.fresh c.args.clause.now (first c) (rest c) q.asserting.2 q.asserting.3 q.asserting.4 (deep c)

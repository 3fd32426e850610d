use Rattle.std.proofs.Common.{◌≡◌, ◌+◌, ◌-◌, ◌*◌, ◌<◌, ℕ, ◌∙◌, false, refl, length, get_or, ap, subst, sym, arith}
use Rattle.stk_clauses.specs.Propagation.{AreQuiet}
use Rattle.stk_propagate.specs.Trailed.{Trailed}
use Rattle.stk_clauses.specs.Literals.{Satisfies}
use Rattle.stk_solver.proofs.solving.solve.Goals as goal

pub values-requires-clause-quiet : goal.values-requires-clause-quiet
values-requires-clause-quiet c =
    let e = c.in-None-choose.ensures in
    subst (λ (t : Trailed). AreQuiet t.assigned.literals c.choose.new.self.store) (sym e.trail) (subst (λ cs. AreQuiet c.propagate.new.self.trail.assigned.literals cs) (sym e.store) c.in-None.ensures.found)

pub returns-in-None-choose : goal.returns-in-None-choose
returns-in-None-choose c =
    let e = c.in_ok-values-in-None-choose.ensures in
    let v = c.in_ok-values-in-None-choose.field-0.items in
    let is = c.from_vec-bits.ensures in (
      ap length is ∙ e.each ∙ c.choose.ensures.vars ∙ c.propagate.ensures.vars ∙ c.loop-search.invariant.vars,
      subst (λ ys. Satisfies (λ k. get_or ys k false) c.args.cnf.now.store) (sym is) e.satisfies,
    )

pub decide-requires-clause-quiet : goal.decide-requires-clause-quiet
decide-requires-clause-quiet c =
    let e = c.in-Some-choose.ensures in
    subst (λ (t : Trailed). AreQuiet t.assigned.literals c.choose.new.self.store) (sym e.trail) (subst (λ cs. AreQuiet c.propagate.new.self.trail.assigned.literals cs) (sym e.store) c.in-None.ensures.found)

-- one step of the budget outweighs all literals
fewer_left : (d e v a b : ℕ) → e ≡ d + 1 → d * (2 * v + 2) + (2 * v + 1 - a) < e * (2 * v + 2) + (2 * v + 1 - b)
fewer_left d e v a b h = rw h (omega arith)

pub loop-search-smaller : goal.loop-search-smaller
loop-search-smaller c =
    let old = c.loop-search.search in
    let new = c.learn.new.self in
    let b = c.args.budget in
    let mid = c.propagate.new.self in
    let same : length mid.log.items ≡ length old.log.items = rw c.propagate.ensures.log refl in
    let longer : length new.log.items ≡ length mid.log.items + 1 = c.in_ok-learn-in-Some.ensures.longer in
    let less : b - length old.log.items ≡ b - length new.log.items + 1 = omega (arith, same, longer, c.loop-search.invariant.within, c.if-len-budget.false, c.len-in-Some.ensures) in
    fewer_left (b - length new.log.items) (b - length old.log.items) c.args.cnf.now.vars (length new.trail.assigned.literals) (length old.trail.assigned.literals) less

use Rattle.std.proofs.Common.{◌≡◌, ◌↔◌, ◌*◌, ◌<◌, ◌++◌, ◌∷◌, ◌∙◌, [], ℕ, List, Bool, true, false, length, get_or, ap, subst, sym, arith, inl, inr, length-append}
use Rattle.std.specs.List.{Contains}
use Rattle.std.proofs.lemmas.Bool.{cases_lt}
use Rattle.std.proofs.lemmas.List.{get_or_at, get_or_append_left}
use Rattle.stk_clauses.specs.Literals.{AreBelow}
use Rattle.stk_clauses.specs.Propagation.{IsQuiet}
use Rattle.stk_clauses.specs.Derivations.{clauses_of_steps}
use Rattle.stk_solver.specs.Searching.{learnt_steps}
use Rattle.stk_solver.proofs.Valuing.{lit_at, clause_true, value_true}
use Rattle.stk_propagate.proofs.Lists.{no_pair}
use Rattle.stk_solver.proofs.search.Search.values.Goals as goal

pub loop-variable-preserved : goal.loop-variable-preserved
loop-variable-preserved c =
    let t = c.args.self.now.trail.assigned.literals in
    let i = c.loop-variable.invariant in
    let at = c.loop-variable.variable in
    let old = c.loop-variable.values.items in
    let new = c.push.new.self.items in
    let b = c.is_true.result in
    let e : new ≡ old ++ b ∷ [] = c.in_ok-push.ensures.items in
    record {
      sized = omega (arith, ap length e, length-append old (b ∷ []), i.sized);
      values = λ k lt. elim (cases_lt k at) [
        | inl a ↦
            let f : get_or new k false ≡ get_or old k false = ap (λ (ys : List Bool). get_or ys k false) e ∙ get_or_append_left old (b ∷ []) false k (omega (arith, a, i.sized)) in
            subst (λ x. (x ≡ true) ↔ Contains t (lit_at (2 * k))) (sym f) (i.values k a)
        | inr a ↦
            let g : at ≡ k = omega (arith, a, lt) in
            let f : get_or new k false ≡ b = ap (λ (ys : List Bool). get_or ys k false) e ∙ get_or_at old b [] false k (i.sized ∙ g) in
            let n : c.new.result.0 ≡ 2 * k = omega (arith, c.new.ensures, g) in
            let y = value_true c.value.result t c.new.result b (no_pair t c.requires.search.assigned.fresh) c.value.ensures c.is_true.ensures in
            subst (λ x. (x ≡ true) ↔ Contains t (lit_at (2 * k))) (sym f) (subst (λ l. (b ≡ true) ↔ Contains t (lit_at l)) n y)
      ];
    }

pub returns-clause-satisfies : goal.returns-clause-satisfies
returns-clause-satisfies c k d lt =
    let s = c.args.self.now in
    let q = c.requires.search in
    let t = s.trail.assigned.literals in
    let given = c.args._given.now in
    let i = c.loop-variable.invariant in
    let v : ℕ → Bool = λ n. get_or c.loop-variable.values.items n false in
    let e : get_or s.store k d ≡ get_or given k d = ap (λ cs. get_or cs k d) q.clauses ∙ get_or_append_left given (clauses_of_steps (learnt_steps s given)) d k lt in
    let in' : k < length s.store = omega (arith, ap length q.clauses, length-append given (clauses_of_steps (learnt_steps s given)), lt) in
    let quiet = subst (λ y. IsQuiet t y) e (c.requires.quiet k d in') in
    let below = subst (λ y. AreBelow s.vars y) e (subst (λ w. AreBelow w (get_or s.store k d)) q.same_vars (q.fits.below k d in')) in
    clause_true t s.vars v (no_pair t q.assigned.fresh) c.requires.all (λ n nl. i.values n (omega (arith, nl, c.loop-variable-test.false))) (get_or given k d) below quiet

pub returns-clause-each : goal.returns-clause-each
returns-clause-each c = omega (arith, c.loop-variable.invariant.sized, c.loop-variable-test.false, c.loop-variable.auto.variable-end)

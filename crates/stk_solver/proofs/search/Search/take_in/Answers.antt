use Rattle.std.proofs.Common.{◌≡◌, ◌++◌, ◌∷◌, ◌∙◌, [], List, length, drop, get_or, ap, subst, sym, arith, length-append}
use Rattle.std.specs.List.{Contains}
use Rattle.std.proofs.lemmas.List.{get_or_at}
use Rattle.stk_clauses.specs.declared.literal.Lit.{Lit}
use Rattle.stk_clauses.specs.Propagation.{IsNew}
use Rattle.stk_clauses.specs.Hints.{IsByHints}
use Rattle.stk_clauses.specs.Derivations.{clauses_of_steps, AreSteps, AreNew}
use Rattle.stk_propagate.specs.Assigned.{Assigned, IsAssigned}
use Rattle.stk_propagate.specs.Fitting.{IsAlive, IsTimely}
use Rattle.stk_solver.specs.Learnt.{AreLevels}
use Rattle.stk_solver.specs.Searching.{steps_of, learnt_steps}
use Rattle.stk_solver.proofs.Logging.{steps_more, new_more, clauses_pushed, log_pushed, still_full}
use Rattle.stk_solver.proofs.search.Search.take_in.Goals as goal

pub attach-requires-clause-alive : goal.attach-requires-clause-alive
attach-requires-clause-alive c =
    let e : get_or c.push.new.self c.in_ok-id.id [] ≡ c.args.learnt.clause = ap (λ (xs : List (List Lit)). get_or xs c.in_ok-id.id []) c.in_ok-id.ensures.pushed ∙ get_or_at c.args.self.now.store c.as_slice.result.now [] [] c.in_ok-id.id (sym c.in_ok-id.ensures.number) ∙ c.as_slice.ensures in
    subst (λ y. IsAlive c.args.self.now.trail.assigned.literals y) (sym e) c.requires.alive

pub attach-requires-clause-timely : goal.attach-requires-clause-timely
attach-requires-clause-timely c =
    let e : get_or c.push.new.self c.in_ok-id.id [] ≡ c.args.learnt.clause = ap (λ (xs : List (List Lit)). get_or xs c.in_ok-id.id []) c.in_ok-id.ensures.pushed ∙ get_or_at c.args.self.now.store c.as_slice.result.now [] [] c.in_ok-id.id (sym c.in_ok-id.ensures.number) ∙ c.as_slice.ensures in
    subst (λ y. IsTimely c.args.self.now.trail.assigned y) (sym e) c.requires.timely

pub returns-clause-search : goal.returns-clause-search
returns-clause-search c =
    let s = c.args.self.now in
    let q = c.requires.search in
    let given = c.args._given.now in
    let x = c.args.learnt in
    let log = learnt_steps s given in
    let pushed : c.push.new.self ≡ s.store ++ x.clause ∷ [] = c.in_ok-id.ensures.pushed ∙ ap (λ y. s.store ++ y ∷ []) c.as_slice.ensures in
    let a = c.in_ok-attach.ensures in
    let more : steps_of c.push-2.new.self.items (drop (length given) c.push.new.self) ≡ log ++ x ∷ [] =
    ap (λ l. steps_of l (drop (length given) c.push.new.self)) c.in_ok-push.ensures.items
    ∙ ap (λ cs. steps_of (s.log.items ++ x.hints ∷ []) (drop (length given) cs)) pushed
    ∙ log_pushed given s.store s.log.items x q.logged in
    let hints = subst (λ cs. IsByHints s.vars cs x.clause x.hints) q.clauses c.requires.by_hints in
    let fresh = subst (λ cs. IsNew cs x.clause) q.clauses c.requires.fresh in
    record {
      clauses = pushed ∙ ap (λ cs. cs ++ x.clause ∷ []) q.clauses ∙ sym (clauses_pushed given log x) ∙ ap (λ ys. given ++ clauses_of_steps ys) (sym more);
      logged = omega (arith, ap length pushed, length-append s.store (x.clause ∷ []), q.logged, ap length c.in_ok-push.ensures.items, length-append s.log.items (x.hints ∷ []));
      small = q.small;
      steps = subst (λ ys. AreSteps s.vars given ys) (sym more) (steps_more s.vars given log x q.steps hints);
      fresh = subst (λ ys. AreNew given ys) (sym more) (new_more given log x q.fresh fresh);
      fits = a.fits;
      assigned = subst (λ z. IsAssigned z) (sym a.assigned) q.assigned;
      same_vars = ap (λ (z : Assigned). z.vars) a.assigned ∙ q.same_vars;
      levels = subst (λ z. AreLevels z s.levels.items) (sym a.assigned) q.levels;
      full = λ some. subst (λ cs. Contains cs [] → ⊥) (sym pushed) (still_full s.store x.clause (q.full some) c.requires.fresh);
      analysed = q.analysed;
    }

use Rattle.std.proofs.Common.{◌≡◌, ◌++◌, ◌∷◌, ◌∙◌, [], length, drop, ap, subst, sym, arith, length-append}
use Rattle.stk_clauses.specs.Hints.{IsByHints}
use Rattle.stk_clauses.specs.Derivations.{IsRefutation}
use Rattle.stk_solver.specs.Searching.{learnt_steps}
use Rattle.stk_solver.proofs.Logging.{steps_length, learnt_count, refuted_by}
use Rattle.stk_solver.proofs.search.Search.refute.Goals as goal

pub returns-clause-refutes : goal.returns-clause-refutes
returns-clause-refutes c =
    let s = c.args.self in
    let q = c.requires.search in
    let given = c.args.given.now in
    let x = c.in_ok-last.last in
    let h = c.in_ok-last.ensures in
    let by' = subst (λ v. IsByHints v s.store x.clause x.hints) q.analysed h.by_hints in
    let log = learnt_steps s given in
    let made = c.in_ok-steps.ensures in
    let pushed : c.push.new.self.items ≡ log ++ x ∷ [] = c.in_ok-push.ensures.items ∙ ap (λ ds. ds ++ x ∷ []) made in
    let hints = subst (λ cs. IsByHints s.vars cs x.clause x.hints) q.clauses by' in
    subst (λ ys. IsRefutation s.vars given ys) (sym pushed) (refuted_by s.vars given log x q.steps hints h.empty)

pub returns-clause-longer : goal.returns-clause-longer
returns-clause-longer c =
    let s = c.args.self in
    let cs = drop (length c.args.given.now) s.store in
    let x = c.in_ok-last.last in
    let count = steps_length s.log.items cs (omega (arith, learnt_count c.args.given.now s.store s.log.items c.requires.search.logged)) in
    omega (arith, ap length c.in_ok-push.ensures.items, ap length c.in_ok-steps.ensures, length-append c.in_ok-steps.steps.items (x ∷ []), count)

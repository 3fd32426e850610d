-- The search goes back.
use Rattle.std.proofs.Common.{◌≡◌, ◌<◌, ◌^◌, ◌+◌, ◌++◌, ◌∙◌, [], List, length, drop, ap, subst, sym}
use Rattle.std.specs.List.{Contains}
use Rattle.stk_clauses.specs.declared.literal.Lit.{Lit}
use Rattle.stk_clauses.specs.Derivations.{clauses_of_steps, AreSteps, AreNew}
use Rattle.stk_propagate.specs.Assigned.{IsAssigned}
use Rattle.stk_propagate.specs.Fitting.{Fits}
use Rattle.stk_solver.specs.Learnt.{AreLevels}
use Rattle.stk_solver.specs.declared.search.Search.{Search}
use Rattle.stk_solver.specs.Searching.{steps_of, learnt_steps, IsSearch}

same_steps : (s r : Search) (given : List (List Lit)) → r.store ≡ s.store → r.log ≡ s.log → learnt_steps r given ≡ learnt_steps s given
same_steps s r given es el = ap (λ l. steps_of l.items (drop (length given) r.store)) el ∙ ap (λ cs. steps_of s.log.items (drop (length given) cs)) es

pub search_back : (s r : Search) (given : List (List Lit)) → r.vars ≡ s.vars → r.store ≡ s.store → r.log ≡ s.log → r.analysis ≡ s.analysis → Fits r.trail s.store → IsAssigned r.trail.assigned → r.trail.assigned.vars ≡ s.trail.assigned.vars → AreLevels r.trail.assigned r.levels.items
    → 0 < length s.levels.items → IsSearch s given → IsSearch r given
search_back s r given ev es el ea fits assigned eav levels some q = record {
  clauses = es ∙ q.clauses ∙ ap (λ d. given ++ clauses_of_steps d) (sym (same_steps s r given es el));
  logged = ap length es ∙ q.logged ∙ ap (λ l. length given + length l.items) (sym el);
  small = subst (λ v. v < 2 ^ 31) (sym ev) q.small;
  steps = subst (λ d. AreSteps r.vars given d) (sym (same_steps s r given es el)) (subst (λ v. AreSteps v given (learnt_steps s given)) (sym ev) q.steps);
  fresh = subst (λ d. AreNew given d) (sym (same_steps s r given es el)) q.fresh;
  fits = subst (λ cs. Fits r.trail cs) (sym es) fits;
  assigned = assigned;
  same_vars = eav ∙ q.same_vars ∙ sym ev;
  levels = levels;
  full = λ _ h. q.full some (subst (λ cs. Contains cs []) es h);
  analysed = ea ∙ q.analysed ∙ sym ev;
}

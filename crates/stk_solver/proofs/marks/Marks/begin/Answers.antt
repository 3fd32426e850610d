use Rattle.std.proofs.Common.{◌≡◌, ◌∷◌, ◌++◌, ◌∙◌, [], ap, subst, None}
use Rattle.stk_solver.proofs.Marking.{AreMarkedToo}
use Rattle.stk_solver.proofs.Leading.{guided_first}
use Rattle.stk_solver.proofs.marks.Marks.begin.Goals as goal

pub returns-clause-guided : goal.returns-clause-guided
returns-clause-guided c =
    let q = c.requires in
    let t = c.args.trail.now.assigned.literals in
    let marks = c.mark_others.new.self in
    let done = subst (λ ys. AreMarkedToo c.args.self.now.marked.items marks.marked.items ys None) c.clause.ensures.clause c.in_ok-mark_others.ensures.marked in
    let hints : c.push.new.self.items ≡ c.args.conflict ∷ [] = c.in_ok-push.ensures.items ∙ ap (λ h. h.items ++ c.args.conflict ∷ []) c.in_ok-mark_others.ensures.hints ∙ ap (λ h. h ++ c.args.conflict ∷ []) c.clear-2.ensures.items in
    guided_first c.args.store.now t c.args.conflict c.args.self.now.marked.items marks.marked.items c.push.new.self.items q.exists q.falsified q.clean.none done hints

use Rattle.std.proofs.Common.{get_or, subst, arith}
use Rattle.stk_clauses.specs.declared.literal.Lit.{Lit}
use Rattle.stk_solver.specs.Marking.{Marked}
use Rattle.stk_solver.proofs.Leading.{guided_lower, within_replaced, on_ok}
use Rattle.stk_solver.proofs.marks.Marks.step_over.Goals as goal

abbrev zero_lit : Lit
zero_lit = record { 0 = 0 }

pub returns-then-not-is_marked-clause-guided : goal.returns-then-not-is_marked-clause-guided
returns-then-not-is_marked-clause-guided c = guided_lower c.args.store.now c.args.trail.now.assigned.literals c.args.place c.args._bound c.args.self.now.marked.items c.args.self.now.hints.items (omega (arith, c.requires.before)) c.requires.guided

pub returns-in-None-clause-guided : goal.returns-in-None-clause-guided
returns-in-None-clause-guided c = guided_lower c.args.store.now c.args.trail.now.assigned.literals c.args.place c.args._bound c.args.self.now.marked.items c.args.self.now.hints.items (omega (arith, c.requires.before)) c.requires.guided

pub returns-in-Some-clause-guided : goal.returns-in-Some-clause-guided
returns-in-Some-clause-guided c =
    let t = c.args.trail.now.assigned.literals in
    let old = c.args.self.now.marked.items in
    let here : Marked old (get_or t c.args.place zero_lit) = subst (λ ys. Marked old (get_or ys c.args.place zero_lit)) c.assigned.ensures.literals (c.is_marked.ensures.0 c.if-not-is_marked.false) in
    on_ok c.resolve.result _ _ (λ h. h c.args._bound zero_lit c.requires.before here c.requires.guided) c.resolve.ensures.guided

pub returns-in-Some-clause-within : goal.returns-in-Some-clause-within
returns-in-Some-clause-within c =
    on_ok c.resolve.result _ _ (λ h. within_replaced c.args.trail.now.assigned.literals c.args.place zero_lit c.args.self.now.marked.items c.resolve.new.self.marked.items h) c.resolve.ensures.replaced

use Rattle.std.proofs.Common.{◌≡◌, [], length, get_or, List, sym, ap, subst, arith}
use Rattle.std.proofs.lemmas.List.{nil_from_length}
use Rattle.stk_clauses.specs.declared.literal.Lit.{Lit}
use Rattle.stk_propagate.specs.Fitting.{IsAlive}
use Rattle.stk_propagate.proofs.Alive.{alive_blank}
use Rattle.stk_search_tests.proofs.steps.learn.Goals as goal

pub attach-requires-clause-alive : goal.attach-requires-clause-alive
attach-requires-clause-alive c =
    let t = c.args.trail.now.assigned.literals in
    let cl : List Lit = get_or c.push.new.self c.in_ok-id.id [] in
    let none : t ≡ [] = nil_from_length t (omega (arith, ap length c.assigned.ensures.literals, c.if-assigned-gt0.false)) in
    subst (λ (ys : List Lit). IsAlive ys cl) (sym none) (alive_blank cl)

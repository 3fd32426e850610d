use Rattle.std.proofs.Common.{◌≡◌, get_or, subst}
use Rattle.stk_clauses.specs.declared.literal.Lit.{Lit}
use Rattle.stk_propagate.proofs.Choose.{false_at}
use Rattle.stk_propagate.proofs.choosing.falsified_at.Goals as goal

pub returns-in-Some : goal.returns-in-Some
returns-in-Some c =
    let t = c.args.assigned.now.literals in
    let e = subst (λ (y : Lit). get_or t c.in-Some.place y ≡ y) c.negated.ensures c.in-Some.ensures.1 in
    false_at t c.args.lit c.in-Some.place c.literals-count.ensures.facts.fresh c.in-Some.ensures.0 e

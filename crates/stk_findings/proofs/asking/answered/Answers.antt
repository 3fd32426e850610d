use Rattle.std.proofs.Common.{ℕ, List, subst}
use Rattle.std.specs.List.{Contains}
use Rattle.stk_goals.proofs.Answered.{none_answers}
use Rattle.stk_findings.proofs.Nevers.{remembered_never}
use Rattle.stk_findings.proofs.asking.answered.Goals as goal

pub returns-then-is_among-clause-right : goal.returns-then-is_among-clause-right
returns-then-is_among-clause-right g c = λ ty without f d set same h.
    let q = c.args.goal.now in
    let among = subst (λ (places : List ℕ). Contains places q.term.0) c.as_slice.ensures.value c.if-is_among.ensures in
    none_answers ty without f d set q.terms.now q.term.0 h (remembered_never q.terms.now c.args.asked.now.nevers.items q.term.0 c.requires.never among)

pub returns-in-Some-clause-right : goal.returns-in-Some-clause-right
returns-in-Some-clause-right g c = λ ty without f d set same h. c.started.ensures.right c.args.budget ty without f d set same h

pub returns-then-branch-clause-right : goal.returns-then-branch-clause-right
returns-then-branch-clause-right g c = λ ty without f d set same h.
    let q = c.args.goal.now in
    none_answers ty without f d set q.terms.now q.term.0 h (c.in_ok-is_never_cut.ensures.never c.if-branch.true)

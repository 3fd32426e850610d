use Rattle.stk_findings.proofs.Said.{makes_of, says_no, said_never, said_spent}
use Rattle.stk_findings.proofs.asking.decided.Goals as goal

pub started-requires-clause-makes : goal.started-requires-clause-makes
started-requires-clause-makes g c =
    let q = c.args.goal.now in
    makes_of q.terms.now q.term.0 c.args.budget c.in_ok-verdict.verdict c.in-Satisfied.residues c.in-Satisfied.is c.in_ok-verdict.ensures.verdict

pub returns-in-Satisfied-clause-right : goal.returns-in-Satisfied-clause-right
returns-in-Satisfied-clause-right g c = λ ty without f d set same h. c.started.ensures.right c.args.budget ty without f d set same h

pub returns-in-Tried-clause-right : goal.returns-in-Tried-clause-right
returns-in-Tried-clause-right g c = λ ty without f d set same h.
    let q = c.args.goal.now in
    said_never ty without f d set q.terms.now q.term.0 h c.args.budget c.in_ok-verdict.verdict (says_no c.in_ok-verdict.verdict c.in-Tried.is) c.in_ok-verdict.ensures.no

pub returns-clause-right : goal.returns-clause-right
returns-clause-right g c = λ ty without f d set same h.
    let q = c.args.goal.now in
    said_spent ty without f d set q.terms.now q.term.0 h c.args.budget c.in_ok-verdict.verdict c.in-Undecided.field-0 c.in-Undecided.field-1 c.in-Undecided.is c.in_ok-verdict.ensures.verdict

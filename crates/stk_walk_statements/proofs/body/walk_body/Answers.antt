use Rattle.stk_walk_statements.proofs.body.walk_body.Goals as goal

pub returns-clause-follows : goal.returns-clause-follows
returns-clause-follows g c = λ m s served at.
    let a = c.in_ok-statement.ensures.walked.follows m s served at in
    record { standing = a.standing; stands = a.stands; flows = a.is }

pub returns-clause-cost : goal.returns-clause-cost
returns-clause-cost g c = c.in_ok-statement.ensures.cost

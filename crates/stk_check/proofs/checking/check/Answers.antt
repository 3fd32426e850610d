use Rattle.stk_clauses.proofs.Steps.{refutation_sound}
use Rattle.stk_check.proofs.checking.check.Goals as goal

pub returns-clause-sound : goal.returns-clause-sound
returns-clause-sound c =
    let cnf = c.args.cnf.now in
    λ e. refutation_sound cnf.vars cnf.store c.as_slice.result.now (c.refutes.ensures.0 e)

use Rattle.stk_clauses.proofs.Units.{new_by_quiet}
use Rattle.stk_clauses.proofs.laws.quiet_makes_new.Goals as goal

pub returns : goal.returns
returns c = new_by_quiet

use Rattle.stk_clauses.proofs.Units.{new_no_superset}
use Rattle.stk_clauses.proofs.laws.new_is_no_superset.Goals as goal

pub returns : goal.returns
returns c = new_no_superset

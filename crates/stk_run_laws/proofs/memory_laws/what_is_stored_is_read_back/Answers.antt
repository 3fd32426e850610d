use Rattle.stk_run_laws.proofs.Keeping.{what_is_stored_is_read_back}
use Rattle.stk_run_laws.proofs.memory_laws.what_is_stored_is_read_back.Goals as goal

pub returns : goal.returns
returns c = what_is_stored_is_read_back

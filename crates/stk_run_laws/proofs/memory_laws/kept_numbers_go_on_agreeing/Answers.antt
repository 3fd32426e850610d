use Rattle.stk_run_laws.proofs.Keeping.{kept_numbers_go_on_agreeing}
use Rattle.stk_run_laws.proofs.memory_laws.kept_numbers_go_on_agreeing.Goals as goal

pub returns : goal.returns
returns c = kept_numbers_go_on_agreeing

use Rattle.stk_run_laws.proofs.Bytes.{number_fits}
use Rattle.stk_run_laws.proofs.memory_laws.what_is_read_is_in_range.Goals as goal

pub returns : goal.returns
returns c = number_fits

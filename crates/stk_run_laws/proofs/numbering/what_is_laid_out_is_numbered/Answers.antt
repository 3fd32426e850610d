use Rattle.stk_run_laws.proofs.Numbered.{what_is_laid_out_is_numbered}
use Rattle.stk_run_laws.proofs.numbering.what_is_laid_out_is_numbered.Goals as goal

pub returns : goal.returns
returns c = what_is_laid_out_is_numbered

use Rattle.stk_run_laws.proofs.GatheredLaws.{each_end_is_shown}
use Rattle.stk_run_laws.proofs.showing.each_end_is_shown.Goals as goal

pub returns : goal.returns
returns c = each_end_is_shown

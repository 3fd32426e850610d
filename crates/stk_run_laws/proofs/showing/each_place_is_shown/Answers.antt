use Rattle.stk_run_laws.proofs.GatheredLaws.{gathering}
use Rattle.stk_run_laws.proofs.showing.each_place_is_shown.Goals as goal

pub returns : goal.returns
returns c = gathering

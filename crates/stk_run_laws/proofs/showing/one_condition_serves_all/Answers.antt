use Rattle.stk_run_laws.proofs.Agreeing.{one_condition_serves_all}
use Rattle.stk_run_laws.proofs.showing.one_condition_serves_all.Goals as goal

pub returns : goal.returns
returns c = one_condition_serves_all

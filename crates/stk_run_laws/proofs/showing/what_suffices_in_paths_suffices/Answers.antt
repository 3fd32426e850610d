use Rattle.stk_run_laws.proofs.GatheredLaws.{what_suffices_in_paths_suffices}
use Rattle.stk_run_laws.proofs.showing.what_suffices_in_paths_suffices.Goals as goal

pub returns : goal.returns
returns c = what_suffices_in_paths_suffices

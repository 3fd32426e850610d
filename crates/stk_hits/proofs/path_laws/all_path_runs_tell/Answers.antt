use Rattle.stk_hits.proofs.Same.{lawful_paths}
use Rattle.stk_hits.proofs.path_laws.all_path_runs_tell.Goals as goal

pub returns : goal.returns
returns c = λ ty without f runs few all are x y h. lawful_paths ty without f runs few all are x y h

use Rattle.stk_run_laws.proofs.OnceLaws.{path_runs_are_listed, executions_are_listed}
use Rattle.stk_run_laws.proofs.listing.what_runs_make_is_listed.Goals as goal

pub returns-clause-path_runs : goal.returns-clause-path_runs
returns-clause-path_runs c = path_runs_are_listed

pub returns-clause-executions : goal.returns-clause-executions
returns-clause-executions c = executions_are_listed

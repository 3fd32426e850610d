use Rattle.stk_lint.proofs.Complete.{complete, complete_generated}
use Rattle.stk_lint.proofs.Asking.{script_reads}
use Rattle.stk_lint.proofs.lint.lint_main.Goals as goal

pub returns-clause-complete : goal.returns-clause-complete
returns-clause-complete g c = complete _ _ _ _ _ _ _ _ c.run-status.ensures.only c.run-status.ensures.bad_words c.run-status.ensures.read_fault c.run-status.ensures.write_fault c.run-status.ensures.too_large

pub returns-clause-complete_generated : goal.returns-clause-complete_generated
returns-clause-complete_generated g c = complete_generated _ _ _ _ _ _ _ _ c.run-status.ensures.only script_reads c.run-status.ensures.bad_words c.run-status.ensures.read_fault c.run-status.ensures.write_fault c.run-status.ensures.too_large

use Rattle.stk_audit_main.proofs.Large.{complete}
use Rattle.stk_audit_main.proofs.main_call.audit_main.Goals as goal

pub returns-clause-complete : goal.returns-clause-complete
returns-clause-complete g c = complete _ _ _ _ _ _ c.run-status.ensures.only c.run-status.ensures.bad_words c.run-status.ensures.read_fault c.run-status.ensures.write_fault c.run-status.ensures.too_large

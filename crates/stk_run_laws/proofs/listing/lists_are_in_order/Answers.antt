use Rattle.stk_run_laws.proofs.Lists.{conditions_in_order, candidates_in_order}
use Rattle.stk_run_laws.proofs.listing.lists_are_in_order.Goals as goal

pub returns-clause-conditions : goal.returns-clause-conditions
returns-clause-conditions c = conditions_in_order

pub returns-clause-candidates : goal.returns-clause-candidates
returns-clause-candidates c = candidates_in_order

use Rattle.stk_walking.proofs.Costing.{two_within, tests_of_operator}
use Rattle.stk_spending.specs.Charges.{arithmetic_test_charge}
use Rattle.stk_walking.proofs.lists.listed_operation.Goals as goal

pub returns-in-InKind-clause-charge : goal.returns-in-InKind-clause-charge
returns-in-InKind-clause-charge c = rw c.in-InKind.is (λ a b. two_within _ _ _ _ _ (c.overflow_test.ensures.charge a b) (c.zero_test.ensures.charge a b) (tests_of_operator c.in-InKind.op (arithmetic_test_charge c.in-InKind.op c.in-InKind.kind a b)))

use Rattle.stk_walk_values.proofs.Spending.{absolute_within, itself}
use Rattle.stk_walk_values.proofs.calls.library_tests.Goals as goal

pub returns-in-AbsoluteIn-clause-charge : goal.returns-in-AbsoluteIn-clause-charge
returns-in-AbsoluteIn-clause-charge c = rw c.in-AbsoluteIn.is (λ a b h. absolute_within c.in-AbsoluteIn.kind a h)

pub returns-in-CopyBytes-clause-charge : goal.returns-in-CopyBytes-clause-charge
returns-in-CopyBytes-clause-charge c = rw c.in-CopyBytes.is (λ a b h. itself 2755)

use Rattle.stk_walking.specs.NodeTests.{maybe_tests}
use Rattle.stk_walking.proofs.Listed.{negation_listed}
use Rattle.std.proofs.Common.{sym, ap, ◌∙◌}
use Rattle.stk_operators.specs.Checked.{tests_of}
use Rattle.stk_walking.proofs.lists.listed.Goals as goal

pub returns-in-Negation-clause-is : goal.returns-in-Negation-clause-is
returns-in-Negation-clause-is c = negation_listed c.in-Negation.kind (maybe_tests c.negation_test.result) c.negation_test.ensures.is ∙ ap tests_of (sym c.in-Negation.is)

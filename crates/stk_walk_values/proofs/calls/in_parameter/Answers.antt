use Rattle.std.proofs.Common.{sym, ◌∙◌}
use Rattle.stk_walking.proofs.Costing.{at_most}
use Rattle.stk_walk_values.proofs.Spending.{parameter_within}
use Rattle.stk_operators.specs.Shown.{library_shown}
use Rattle.stk_walk_values.proofs.calls.in_parameter.Goals as goal

pub returns-in_ok-value-in-Some-clause-charge : goal.returns-in_ok-value-in-Some-clause-charge
returns-in_ok-value-in-Some-clause-charge g c = at_most _ c.in_ok-value-in-Some.ensures.charge (parameter_within (library_shown c.args.library) c.args.at c.args.argument.kind c.in-Some.kind (sym c.parameter_kind.ensures ∙ c.in-Some.is))

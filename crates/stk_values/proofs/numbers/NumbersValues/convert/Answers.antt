use Rattle.std.proofs.Common.{to_z, of_z}
use mir.Syntax.{w128}
use Rattle.stk_values.proofs.Answered.{wrapped_fits}
use Rattle.stk_values.proofs.numbers.NumbersValues.convert.Goals as goal

pub returns-clause-makes : goal.returns-clause-makes
returns-clause-makes c = wrapped_fits c.args.to (to_z w128 (of_z w128 c.args.value)) c.wrap.result c.wrap.ensures

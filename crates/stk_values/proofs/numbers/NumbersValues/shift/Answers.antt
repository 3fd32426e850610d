use Rattle.std.proofs.Common.{to_z, of_z}
use mir.Syntax.{w128}
use Rattle.stk_values.proofs.Answered.{shifted_fits}
use Rattle.stk_values.proofs.numbers.NumbersValues.shift.Goals as goal

pub returns-clause-makes : goal.returns-clause-makes
returns-clause-makes c = shifted_fits c.args.op c.args.kind c.args.left (to_z w128 (of_z w128 c.args.count)) c.shifted.result c.requires.left c.shifted.ensures

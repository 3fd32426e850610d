use Rattle.std.proofs.Common.{ap}
use mir.Val.{of_z}
use mir.Syntax.{w128}
use Rattle.stk_numbers.proofs.Dividing.{remainder_value, remainder_by_zero, is_zero}
use Rattle.stk_numbers.proofs.arithmetic.remainder.Goals as goal

pub returns-then-right-eq0 : goal.returns-then-right-eq0
returns-then-right-eq0 c = remainder_by_zero c.args.kind c.args.left c.args.right c.wrap.result c.requires.left (is_zero c.args.kind c.args.right c.requires.right c.if-right-eq0.true) c.wrap.ensures

pub returns : goal.returns
returns c = remainder_value c.args.kind c.args.left c.args.right c.wrap-2.result c.requires.left c.requires.right (λ e. c.if-right-eq0.false (ap (of_z w128) e)) c.wrap-2.ensures

use Rattle.std.proofs.Common.{length, ◌∙◌}
use Rattle.stk_arith.specs.Rows.{number}
use Rattle.stk_arith.proofs.Numbers.{number-below}
use Rattle.stk_blast.proofs.Words.{right-is}
use Rattle.stk_blast.proofs.shift.right.Goals as goal

pub returns-clause-value : goal.returns-clause-value
returns-clause-value c values o = c.in_ok-row.ensures.value values o ∙ right-is (length c.args.a.now) (number values c.args.a.now) (number values c.args.b.now) (number-below values c.args.a.now)

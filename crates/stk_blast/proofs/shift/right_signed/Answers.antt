use Rattle.std.proofs.Common.{length, ◌∙◌}
use Rattle.stk_arith.specs.Rows.{number}
use Rattle.stk_arith.proofs.Numbers.{number-below}
use Rattle.stk_blast.proofs.Words.{right_signed-is}
use Rattle.stk_blast.proofs.shift.right_signed.Goals as goal

pub returns-clause-value : goal.returns-clause-value
returns-clause-value c values o = c.in_ok-row.ensures.value values o ∙ right_signed-is (length c.args.a.now) (number values c.args.a.now) (number values c.args.b.now) c.requires.some (number-below values c.args.a.now)

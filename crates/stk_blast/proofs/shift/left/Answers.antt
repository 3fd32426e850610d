use Rattle.std.proofs.Common.{length, ◌∙◌}
use Rattle.stk_arith.specs.Rows.{number}
use Rattle.stk_blast.proofs.Words.{left-is}
use Rattle.stk_blast.proofs.shift.left.Goals as goal

pub returns-clause-value : goal.returns-clause-value
returns-clause-value c values o = c.in_ok-row.ensures.value values o ∙ left-is (length c.args.a.now) (number values c.args.a.now) (number values c.args.b.now)

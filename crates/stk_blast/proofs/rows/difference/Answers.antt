use Rattle.std.proofs.Common.{◌^◌, ◌<◌, length, subst}
use Rattle.stk_arith.specs.Rows.{number}
use Rattle.stk_arith.proofs.Numbers.{number-below}
use Rattle.stk_blast.proofs.Words.{difference-is}
use Rattle.stk_blast.proofs.rows.difference.Goals as goal

pub returns-clause-value : goal.returns-clause-value
returns-clause-value c values o =
    let y = number values c.args.b.now in
    difference-is _ (number values c.args.a.now) y (2 ^ length c.args.a.now) (subst (λ n. y < 2 ^ n) c.requires.same (number-below values c.args.b.now)) (c.in_ok-bits.ensures.value values o)

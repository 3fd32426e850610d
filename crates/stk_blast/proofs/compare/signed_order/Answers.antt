use Rattle.std.proofs.Common.{◌^◌, ◌<◌, length, subst, ◌∙◌}
use Rattle.stk_arith.specs.Rows.{number}
use Rattle.stk_arith.proofs.Numbers.{number-below}
use Rattle.stk_blast.proofs.Words.{number-alone, less-signed}
use Rattle.stk_blast.proofs.compare.signed_order.Goals as goal

pub returns-clause-value : goal.returns-clause-value
returns-clause-value c values o =
    let x = number values c.args.a.now in
    let y = number values c.args.b.now in
    number-alone values c.in_ok-row.row c.in_ok-edge.edge _ c.in_ok-row.ensures
    (c.in_ok-edge.ensures.value values o ∙ less-signed (length c.args.a.now) x y c.requires.some (number-below values c.args.a.now) (subst (λ n. y < 2 ^ n) c.requires.same (number-below values c.args.b.now)))

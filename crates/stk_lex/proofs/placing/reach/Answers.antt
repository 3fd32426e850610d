use Rattle.std.proofs.Common.{◌-◌, arith}
use Rattle.stk_lex.proofs.Lines.{none_within}
use Rattle.stk_lex.proofs.placing.reach.Goals as goal

pub returns-then-next-at-clause-between : goal.returns-then-next-at-clause-between
returns-then-next-at-clause-between c =
    none_within c.args.bytes.now c.loop-stand.stand.at (c.step-next.result.at - 1) c.loop-stand.stand.at c.args.at c.step-next.ensures.between (omega arith) (omega (arith, c.if-next-at.true))

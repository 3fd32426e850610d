use Rattle.std.proofs.Common.{◌≡◌, arith}
use Rattle.stk_lex.specs.Gaps.{gap}
use Rattle.stk_lex.specs.Place.{token_part}
use Rattle.stk_lex.proofs.placing.part.Goals as goal

pub returns-clause-part : goal.returns-clause-part
returns-clause-part c =
    let none : gap c.args.bytes.now c.args.at ≡ 0 = omega (arith, c.gap-n.ensures.value, c.if-n-gt0.false) in
    token_part none (rw c.split_at.ensures.back at c.first-n.ensures)

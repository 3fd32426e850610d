use Rattle.std.proofs.Common.{◌≡◌, ◌+◌, subst, arith}
use Rattle.stk_lex.specs.Stands.{IsLine}
use Rattle.stk_lex.proofs.Lines.{none_within}
use Rattle.stk_lex.proofs.placing.along.Goals as goal

pub next_line-here-requires-clause-none : goal.next_line-here-requires-clause-none
next_line-here-requires-clause-none c =
    none_within c.args.bytes.now c.args.from c.args.to c.loop-at.at (c.loop-at.at + 1) c.requires.none c.loop-at.invariant.within.0 (omega (arith, c.loop-at-test.true))

pub returns : goal.returns
returns c =
    let end : c.loop-at.at ≡ c.args.to = omega arith in
    subst (λ at. IsLine c.args.bytes.now at c.loop-at.here) end c.loop-at.invariant.line

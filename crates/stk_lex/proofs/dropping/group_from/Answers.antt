use Rattle.std.proofs.Common.{arith, ap, sym, ◌∙◌}
use Rattle.stk_lex.specs.Gaps.{one_more}
use Rattle.stk_lex.specs.Skimming.{closing, group}
use Rattle.stk_lex.proofs.Closings.{closing_within}
use Rattle.stk_lex.proofs.Found.{found_here}
use Rattle.stk_lex.proofs.dropping.group_from.Goals as goal

pub one_more-requires : goal.one_more-requires
one_more-requires c =
    omega (arith, found_here (closing c.args.bytes.now 1) c.args.behind.now c.args.ends.now c.requires.ends, closing_within c.args.bytes.now c.args.behind.now 1, c.requires.few)

pub returns-then-opens_parenthesis : goal.returns-then-opens_parenthesis
unfolding group
returns-then-opens_parenthesis c =
    let opened = sym c.opens_parenthesis.ensures ∙ c.if-opens_parenthesis.true in
    rw opened (c.one_more.ensures ∙ ap one_more (found_here (closing c.args.bytes.now 1) c.args.behind.now c.args.ends.now c.requires.ends))

use Rattle.stk_lex.specs.Skimming.{closing}
use Rattle.stk_lex.proofs.Found.{found_behind}
use Rattle.stk_lex.proofs.dropping.group.Goals as goal

pub group_from-requires-clause-ends : goal.group_from-requires-clause-ends
group_from-requires-clause-ends c =
    let known = rw c.in-Some.ensures.cases.0 at c.requires.ends in
    found_behind (closing c.args.bytes.now 1) c.in-Some.token.now c.in-Some.behind.now c.args.ends.now known

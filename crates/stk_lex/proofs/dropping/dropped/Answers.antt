use Rattle.std.proofs.Common.{arith}
use Rattle.stk_lex.proofs.Groups.{group_within}
use Rattle.stk_lex.proofs.dropping.dropped.Goals as goal

pub one_more-requires : goal.one_more-requires
one_more-requires c = omega (arith, c.group.ensures, group_within c.args.bytes.now c.args.behind.now, c.requires.few)

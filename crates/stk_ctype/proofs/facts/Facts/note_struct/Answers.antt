use Rattle.std.proofs.Common.{arith}
use Rattle.stk_ctype.proofs.Noting.{untagged_noted, tagged_noted, kept_few}
use Rattle.stk_ctype.proofs.facts.Facts.note_struct.Goals as goal

pub overflow_cast-id : goal.overflow_cast-id
overflow_cast-id c = omega (arith, c.len-id.ensures, kept_few c.args.self.now c.args.entries.now c.requires.facts)

pub returns-in_default-clause-noted : goal.returns-in_default-clause-noted
returns-in_default-clause-noted c = untagged_noted c.args.self.now _ c.args.entries.now c.args.tag.now c.in_default.is c.requires.facts c.in_ok-push.ensures.items

pub returns-clause-noted : goal.returns-clause-noted
returns-clause-noted c =
    tagged_noted c.args.self.now _ _ c.args.entries.now c.args.tag.now c.in-Some.tag _ _ c.in-Some.is c.as_slice.ensures c.len-id.ensures c.requires.facts c.in_ok-push.ensures.items c.in-Ok.ensures.added

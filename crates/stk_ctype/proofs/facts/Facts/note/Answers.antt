use Rattle.std.proofs.Common.{refl}
use Rattle.stk_ctype.proofs.Noting.{symbol_noted, enumeration_noted, members_noted}
use Rattle.stk_ctype.proofs.facts.Facts.note.Goals as goal

pub returns-in-Symbol-clause-noted : goal.returns-in-Symbol-clause-noted
returns-in-Symbol-clause-noted c =
    symbol_noted c.push.result c.args.self.now _ c.args.entries.now c.args.entry.now c.in-Symbol.name _ c.in-Symbol.symbol _ c.in-Symbol.is c.as_slice.ensures refl c.requires.facts c.requires.rests c.push.ensures.added

pub returns-in-Enumeration-clause-noted : goal.returns-in-Enumeration-clause-noted
returns-in-Enumeration-clause-noted c =
    enumeration_noted c.push-in-Enumeration.result c.args.self.now _ c.args.entries.now c.args.entry.now c.in-Enumeration.tag _ c.in-Enumeration.is c.as_slice-in-Enumeration.ensures c.requires.facts c.push-in-Enumeration.ensures.added

pub returns-in-Members-clause-noted : goal.returns-in-Members-clause-noted
returns-in-Members-clause-noted c =
    members_noted c.args.self.now _ c.args.entries.now c.args.entry.now c.in-Members.id c.in-Members.members c.args.layout c.in-Members.is c.requires.facts c.requires.rests c.requires.layout refl

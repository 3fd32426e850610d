use Rattle.std.proofs.Common.{refl}
use Rattle.stk_ctype.proofs.Noting.{symbol_forgot, enumeration_forgot, untagged_forgot, tagged_forgot, members_forgot, has_place}
use Rattle.stk_ctype.proofs.facts.Facts.forget.Goals as goal

pub index_mut-requires : goal.index_mut-requires
index_mut-requires c = has_place c.args.self.now c.args.entries.now c.args.entry.now c.in-Members.id c.in-Members.members c.in-Members.is c.requires

pub returns-in-Symbol : goal.returns-in-Symbol
returns-in-Symbol c = symbol_forgot c.args.self.now _ c.args.entries.now c.args.entry.now c.in-Symbol.name _ c.in-Symbol.symbol c.in-Symbol.is c.as_slice.ensures c.requires c.pop.ensures

pub returns-in-Some : goal.returns-in-Some
returns-in-Some c =
    tagged_forgot c.args.self.now _ _ c.pop-in-Struct.result c.args.entries.now c.args.entry.now c.in-Struct.tag c.in-Some.tag _ c.in-Struct.is c.in-Some.is c.as_slice-in-Some.ensures c.requires c.pop-in-Struct.ensures.items c.pop-in-Struct.ensures.variant.1
    c.pop-in-Some.ensures

pub returns-in_default : goal.returns-in_default
returns-in_default c = untagged_forgot c.args.self.now _ c.pop-in-Struct.result c.args.entries.now c.args.entry.now c.in-Struct.tag c.in-Struct.is c.in_default.is c.requires c.pop-in-Struct.ensures.items c.pop-in-Struct.ensures.variant.1

pub returns-in-Members : goal.returns-in-Members
returns-in-Members c = members_forgot c.args.self.now _ c.args.entries.now c.args.entry.now c.in-Members.id c.in-Members.members c.in-Members.is c.requires refl

pub returns-in-Enumeration : goal.returns-in-Enumeration
returns-in-Enumeration c = enumeration_forgot c.args.self.now _ c.args.entries.now c.args.entry.now c.in-Enumeration.tag _ c.in-Enumeration.is c.as_slice-in-Enumeration.ensures c.requires c.pop-in-Enumeration.ensures

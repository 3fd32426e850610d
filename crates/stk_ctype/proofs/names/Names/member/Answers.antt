use Rattle.std.proofs.Common.{ap, sym, subst, ◌∙◌, ◌<◌, length}
use Rattle.std.specs.Prelude.{IfSome}
use Rattle.stk_ctype.specs.Types.{type_of}
use Rattle.stk_ctype.specs.Structs.{structs_of, member_named}
use Rattle.stk_ctype.specs.Sound.{IsSound}
use Rattle.stk_ctype.proofs.Staying.{listed_sound, shown_sound, kept_at}
use Rattle.stk_ctype.proofs.names.Names.member.Goals as goal

pub returns-clause-sound : goal.returns-clause-sound
returns-clause-sound c =
    let layout = c.in_ok-layout.layout.now in
    let inside = c.self.inside in
    let at = subst (λ es. layout.at < length es) (sym c.self.view_is) (kept_at c.args.self.now c.in-Struct.id layout _ c.in_ok-layout.ensures) in
    let listed = listed_sound inside.facts inside.entries.items layout.at c.in-Members.id c.index.result.now c.in-Members.members c.args.name.now layout.offsets.items c.self.invariant.0 at c.index.ensures c.in-Members.is in
    let found = subst (λ es. IfSome (member_named c.args.name.now c.in-Members.members layout.offsets.items) (λ p. IsSound (structs_of es) (type_of p.1))) c.self.view_is listed in
    shown_sound (λ p. (p.0, p.1.now)) (structs_of c.args.self.now) c.member_named.result _ (c.member_named.ensures ∙ ap (λ ms. member_named c.args.name.now ms layout.offsets.items) c.as_slice.ensures) found

use Rattle.std.proofs.Common.{ℕ, List, ◌≡◌, ◌<◌, ◌≤◌, length, sym, subst, ◌∙◌, slice_index_or}
use Rattle.stk_ctype.specs.Facts.{member_words}
use Rattle.stk_ctype.proofs.MemberPlaces.{no_offset, is_member}
use Rattle.stk_ctype.proofs.sizes.member_named.Goals as goal

pub returns-in_default-get : goal.returns-in_default-get
returns-in_default-get c =
    let few = subst (λ (os : List ℕ). length os ≤ c.in-Some.place) c.deref.ensures.value c.in_default-get.ensures.lookup.3 in
    sym (no_offset c.args.name.now c.args.members.now c.args.layout.now.offsets.items c.in-Some.place (sym (c.get.ensures (member_words 0 c.args.members.now) c.requires) ∙ c.in-Some.is) few)

pub returns : goal.returns
returns c =
    let p = c.in-Some.place in
    let o = c.in-Some-get.offset.now in
    let there = c.in-Some-get.ensures.lookup.3 in
    let within = subst (λ (os : List ℕ). p < length os) c.deref.ensures.value there.0 in
    let same = subst (λ (os : List ℕ). o ≡ slice_index_or os p o) c.deref.ensures.value (there.1 o) in
    is_member c.args.name.now c.args.members.now c.args.layout.now.offsets.items p o c.index-members-place.result (sym (c.get.ensures (member_words 0 c.args.members.now) c.requires) ∙ c.in-Some.is) within same

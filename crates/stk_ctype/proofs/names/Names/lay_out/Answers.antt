use Rattle.std.proofs.Common.{◌++◌, ap, subst, sym, drop, ◌+◌}
use Rattle.stk_ctype.specs.Structs.{structs_of, offsets_behind}
use Rattle.stk_ctype.proofs.Placing.{HaveAlignments, have_alignments, none_placed, next_member, placed_sound, placed_more, none_too_large, offsets_more}
use Rattle.stk_ctype.proofs.names.Names.lay_out.Goals as goal

pub loop-member-init : goal.loop-member-init
loop-member-init c = record {
  placed = none_placed _ c.args.members.now c.requires.members;
  offsets = ap (λ xs. xs ++ offsets_behind (structs_of c.args.self.now) 0 c.args.members.now) c.new-offsets.ensures.items;
}

pub place-offset-requires-clause-sound : goal.place-offset-requires-clause-sound
place-offset-requires-clause-sound c =
    let left = next_member c.args.members.now c.loop-member.member-index c.member-item.result c.loop-member-test.true c.member-item.is in
    placed_sound (structs_of c.args.self.now) c.args.members.now _ _ c.member-item.result c.loop-member.behind c.loop-member.alignment left c.loop-member.invariant.placed

pub loop-member-preserved : goal.loop-member-preserved
loop-member-preserved c =
    let have = subst (λ es. HaveAlignments (structs_of es)) c.self.view_is (have_alignments c.self.inside.facts c.self.inside.entries.items c.self.invariant.0) in
    let left = next_member c.args.members.now c.loop-member.member-index c.member-item.result c.loop-member-test.true c.member-item.is in
    let small = none_too_large (structs_of c.args.self.now) c.args.members.now _ _ c.member-item.result c.loop-member.behind c.loop-member.alignment c.place-offset.result.1 have c.requires.size left c.loop-member.invariant.placed c.place-offset.ensures.end in
    record {
      placed = subst (λ a. Rattle.stk_ctype.proofs.Placing.ArePlaced (structs_of c.args.self.now) c.args.members.now (drop (c.loop-member.member-index + 1) c.args.members.now) c.place-offset.result.1 a) (sym c.max-alignment.ensures)
          (placed_more (structs_of c.args.self.now) c.args.members.now _ _ c.member-item.result c.loop-member.behind c.loop-member.alignment _ _ left c.loop-member.invariant.placed c.place-offset.ensures.end c.alignment_of.ensures.value small c.alignment_of.ensures.least c.alignment_of.ensures.greatest);
      offsets = offsets_more (structs_of c.args.self.now) c.args.members.now _ _ c.member-item.result c.loop-member.offsets.items _ c.loop-member.behind _ _ left c.in_ok-push.ensures.items c.place-offset.ensures.offset c.place-offset.ensures.end c.loop-member.invariant.offsets;
    }

use Rattle.std.proofs.Common.{◌<◌, subst, sym, arith}
use Rattle.stk_ctype.specs.Structs.{structs_of, struct_size, size_limit}
use Rattle.stk_ctype.proofs.Placing.{HaveAlignments, have_alignments, none_placed, next_member, too_large, is_beyond}
use Rattle.stk_ctype.proofs.names.Names.layout.Goals as goal

pub loop-member-init : goal.loop-member-init
loop-member-init c = none_placed _ c.args.members.now c.requires

pub returns-then-end-gt-SIZE_LIMIT : goal.returns-then-end-gt-SIZE_LIMIT
returns-then-end-gt-SIZE_LIMIT c =
    let have = subst (λ es. HaveAlignments (structs_of es)) c.self.view_is (have_alignments c.self.inside.facts c.self.inside.entries.items c.self.invariant.0) in
    let left = next_member c.args.members.now c.loop-member.member-index c.member-item.result c.loop-member-test.true c.member-item.is in
    let size = too_large (structs_of c.args.self.now) c.args.members.now _ _ c.member-item.result c.loop-member.behind c.loop-member.alignment c.place-end.result.1 have left c.loop-member.invariant c.place-end.ensures.end in
    let beyond : size_limit < struct_size (structs_of c.args.self.now) c.args.members.now = omega (arith, size, c.if-end-gt-SIZE_LIMIT.true) in
    sym (is_beyond _ beyond)

use Rattle.std.proofs.Common.{◌≡◌, ◌+◌, ◌-◌, ◌∙◌, Err, ap, drop, map, true, rules}
use Rattle.stk_ctype.specs.Structs.{structs_of}
use Rattle.stk_ctype.specs.Types.{struct_type}
use Rattle.stk_tree.specs.declared.declaration.Base.{out-Base}
use Rattle.stk_tree.specs.Syntax as s
use Rattle.stk_tree.specs.View.{members as member_row, view_base, view_base_form, view_member}
use Rattle.stk_typing.proofs.Turns.{next_of}
use Rattle.stk_declare.specs.Structs.{ends_members}
use Rattle.stk_declare.proofs.Entries.{struct_gives}
use Rattle.stk_declare.proofs.Extending.{extends_self, extends_twice, sound_kept}
use Rattle.stk_declare.proofs.Plain.{plainly}
use Rattle.stk_declare.proofs.Rows.{begun, fewer, members_end_here, members_stop, members_turn, went_on}
use Rattle.stk_declare.proofs.Views.{view_base_node, view_struct_def}
use Rattle.stk_declare.proofs.structs.+base.Goals as goal

pub base-close-requires-clause-sound : goal.base-close-requires-clause-sound
base-close-requires-clause-sound n c = sound_kept c.open.new.names c.members.new.names (struct_type c.in_ok-opened-in-StructDef.opened.id) c.in_ok-members-in-StructDef.ensures.extends c.in_ok-opened-in-StructDef.ensures.sound

pub base-returns-in_ok-members-in-StructDef-clause-gives : goal.base-returns-in_ok-members-in-StructDef-clause-gives
base-returns-in_ok-members-in-StructDef-clause-gives n c =
    let b = out-Base c.args.b.now in
    let ms = member_row (map view_member c.in-StructDef.list) in
    let view : view_base c.args.b.now ≡ s.base b.node (s.struct_def c.in-StructDef.tag ms) = view_base_node c.args.b.now ∙ ap (λ f. s.base b.node (view_base_form f)) c.in-StructDef.is ∙ ap (s.base b.node) (view_struct_def c.in-StructDef.tag c.in-StructDef.list) in
    let found = rw (c.new-found.ensures, c.as_slice.ensures) at c.in_ok-members-in-StructDef.ensures.gives in
    rw view (struct_gives c.args.bytes.now c.args.names.now c.open.new.names c.members.new.names c.close.new.names b.node.number c.in-StructDef.tag ms c.in_ok-opened-in-StructDef.opened c.members.new.found tt c.close.result c.in_ok-opened-in-StructDef.ensures.is found c.close.ensures.gives)

pub base-returns-in-Words-clause-gives : goal.base-returns-in-Words-clause-gives
base-returns-in-Words-clause-gives n c = rw (plainly c.args.bytes.now c.args.names.now c.args.b.now c.in-Words.is) c.plain_base.ensures.gives

pub members-loop-m-init : goal.members-loop-m-init
members-loop-m-init n c = record {
  left = search rules;
  extends = extends_self c.args.names.now;
  members = begun true (structs_of c.args.names.now) c.args.found.now c.args.list.now c.requires;
  rest = λ result now ms h. h;
}

pub members-loop-m-preserved : goal.members-loop-m-preserved
members-loop-m-preserved n c =
    let rest = drop (c.loop-m.m-index + 1) c.args.list.now in
    let step = next_of c.args.list.now c.loop-m.m-index c.m-item.result c.loop-m-test.true c.m-item.is in
    let less = fewer (drop c.loop-m.m-index c.args.list.now) rest c.m-item.result c.loop-m.left step c.loop-m.invariant.left in
    let ends : c.is_last-ends.result ≡ ends_members (member_row (map view_member rest)) = c.is_last-ends.ensures ∙ members_end_here rest (c.loop-m.left - 1) less in
    let members = rw c.is_last-ends.ensures at c.in_ok-member.ensures.members in
    record {
      left = less;
      extends = extends_twice c.args.names.now c.loop-m.names c.member.new.names c.loop-m.invariant.extends c.in_ok-member.ensures.extends;
      members = went_on true (structs_of c.member.new.names) c.member.new.found rest (c.loop-m.left - 1) less members;
      rest = λ result now ms h.
          c.loop-m.invariant.rest result now ms
          (rw step (members_turn c.args.bytes.now c.loop-m.names c.member.new.names now c.loop-m.found c.member.new.found ms c.is_last-ends.result (view_member c.m-item.result) (member_row (map view_member rest)) tt result ends c.in_ok-member.ensures.gives h));
    }

pub members-returns-in_err-member-clause-gives : goal.members-returns-in_err-member-clause-gives
members-returns-in_err-member-clause-gives n c =
    let same : c.from_residual.result ≡ Err c.in_err-member.field-0.0 = search rules in
    let rest = drop (c.loop-m.m-index + 1) c.args.list.now in
    let step = next_of c.args.list.now c.loop-m.m-index c.m-item.result c.loop-m-test.true c.m-item.is in
    let less = fewer (drop c.loop-m.m-index c.args.list.now) rest c.m-item.result c.loop-m.left step c.loop-m.invariant.left in
    let ends : c.is_last-ends.result ≡ ends_members (member_row (map view_member rest)) = c.is_last-ends.ensures ∙ members_end_here rest (c.loop-m.left - 1) less in
    rw same (c.loop-m.invariant.rest (Err c.in_err-member.field-0.0) c.member.new.names c.member.new.found
    (rw step (members_stop c.args.bytes.now c.loop-m.names c.member.new.names c.member.new.names c.loop-m.found c.member.new.found c.member.new.found c.is_last-ends.result (view_member c.m-item.result) (member_row (map view_member rest)) c.in_err-member.field-0.0 ends c.in_err-member.ensures.gives)))

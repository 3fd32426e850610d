use Rattle.std.proofs.Common.{◌≡◌, ◌+◌, ◌-◌, ◌&&◌, ◌∙◌, Err, ap, drop, map, rules}
use Rattle.stk_ctype.specs.Structs.{structs_of}
use Rattle.stk_ctype.specs.Types.{type_of}
use Rattle.stk_tree.specs.View.{declarators, view_declarator}
use Rattle.stk_typing.proofs.Turns.{next_of}
use Rattle.stk_declare.specs.Structs.{ends_declarators}
use Rattle.stk_declare.proofs.Extending.{extends_self, extends_twice, sound_kept}
use Rattle.stk_declare.proofs.Rows.{begun, ends_here, fewer, member_declarators_stop, member_declarators_turn, still_complete, went_on}
use Rattle.stk_declare.proofs.structs.member_declarators.Goals as goal

pub loop-d-init : goal.loop-d-init
loop-d-init c = record {
  sound = c.requires.sound;
  left = search rules;
  extends = extends_self c.args.names.now;
  members = begun c.args.last (structs_of c.args.names.now) c.args.found.now c.args.list.now c.requires.members;
  rest = λ result now ms h. h;
}

pub loop-d-preserved : goal.loop-d-preserved
loop-d-preserved c =
    let rest = drop (c.loop-d.d-index + 1) c.args.list.now in
    let step = next_of c.args.list.now c.loop-d.d-index c.d-item.result c.loop-d-test.true c.d-item.is in
    let less = fewer (drop c.loop-d.d-index c.args.list.now) rest c.d-item.result c.loop-d.left step c.loop-d.invariant.left in
    let ends : c.is_last-ends.result ≡ (c.args.last && ends_declarators (declarators (map view_declarator rest))) = c.is_last-ends.ensures ∙ ap (λ b. c.args.last && b) (ends_here rest (c.loop-d.left - 1) less) in
    let members = rw c.is_last-ends.ensures at c.in_ok-member_declarator.ensures.members in
    record {
      sound = sound_kept c.loop-d.names c.member_declarator.new.names (type_of c.args.ty.now) c.in_ok-member_declarator.ensures.extends c.loop-d.invariant.sound;
      left = less;
      extends = extends_twice c.args.names.now c.loop-d.names c.member_declarator.new.names c.loop-d.invariant.extends c.in_ok-member_declarator.ensures.extends;
      members = went_on c.args.last (structs_of c.member_declarator.new.names) c.member_declarator.new.found rest (c.loop-d.left - 1) less members;
      rest = λ result now ms h.
          c.loop-d.invariant.rest result now ms
          (rw step (member_declarators_turn c.args.bytes.now c.loop-d.names c.member_declarator.new.names now c.loop-d.found c.member_declarator.new.found ms c.args.last c.is_last-ends.result (type_of c.args.ty.now) (view_declarator c.d-item.result)
          (declarators (map view_declarator rest)) tt result ends c.in_ok-member_declarator.ensures.gives h));
    }

pub member_declarator-requires-clause-members : goal.member_declarator-requires-clause-members
member_declarator-requires-clause-members c =
    let rest = drop (c.loop-d.d-index + 1) c.args.list.now in
    let step = next_of c.args.list.now c.loop-d.d-index c.d-item.result c.loop-d-test.true c.d-item.is in
    still_complete c.args.last (structs_of c.loop-d.names) c.loop-d.found (drop c.loop-d.d-index c.args.list.now) rest c.d-item.result step c.loop-d.invariant.members

pub returns-in_err-member_declarator-clause-gives : goal.returns-in_err-member_declarator-clause-gives
returns-in_err-member_declarator-clause-gives c =
    let same : c.from_residual.result ≡ Err c.in_err-member_declarator.field-0.0 = search rules in
    let rest = drop (c.loop-d.d-index + 1) c.args.list.now in
    let step = next_of c.args.list.now c.loop-d.d-index c.d-item.result c.loop-d-test.true c.d-item.is in
    let less = fewer (drop c.loop-d.d-index c.args.list.now) rest c.d-item.result c.loop-d.left step c.loop-d.invariant.left in
    let ends : c.is_last-ends.result ≡ (c.args.last && ends_declarators (declarators (map view_declarator rest))) = c.is_last-ends.ensures ∙ ap (λ b. c.args.last && b) (ends_here rest (c.loop-d.left - 1) less) in
    rw same (c.loop-d.invariant.rest (Err c.in_err-member_declarator.field-0.0) c.member_declarator.new.names c.member_declarator.new.found
    (rw step (member_declarators_stop c.args.bytes.now c.loop-d.names c.member_declarator.new.names c.member_declarator.new.names c.loop-d.found c.member_declarator.new.found c.member_declarator.new.found c.args.last c.is_last-ends.result (type_of c.args.ty.now) (view_declarator c.d-item.result)
    (declarators (map view_declarator rest)) c.in_err-member_declarator.field-0.0 ends c.in_err-member_declarator.ensures.gives)))

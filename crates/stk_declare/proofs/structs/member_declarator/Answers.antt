use Rattle.std.proofs.Common.{◌∙◌, ◌++◌, ◌∷◌, [], List, ap}
use Rattle.std.specs.Option.{option_map}
use Rattle.stk_ctype.specs.declared.symbol.MemberInfo.{MemberInfo}
use Rattle.stk_ctype.specs.Structs.{structs_of}
use Rattle.stk_ctype.specs.Types.{type_of}
use Rattle.stk_tree.specs.declared.declaration.Declr.{out-Declr}
use Rattle.stk_tree.specs.View.{maybe_initialiser, view_initialiser, view_tail}
use Rattle.stk_declare.proofs.Closing.{so_far_more}
use Rattle.stk_declare.proofs.Entries.{member_adds}
use Rattle.stk_declare.proofs.Extending.{complete_kept}
use Rattle.stk_declare.proofs.Views.{view_declarator_node}
use Rattle.stk_declare.proofs.structs.member_declarator.Goals as goal

pub returns-clause-gives : goal.returns-clause-gives
returns-clause-gives c =
    let d = out-Declr c.args.d.now in
    let typed = rw (view_declarator_node c.args.d.now) at c.in_ok-fact.ensures.gives in
    let used = rw c.array_parts.ensures at c.in_ok-use_dimensions.ensures.is in
    rw (view_declarator_node c.args.d.now)
    (member_adds c.args.bytes.now c.args.names.now c.args.found.now c.args.last (type_of c.args.ty.now) d.node d.stars d.name (view_tail d.tail) (maybe_initialiser (option_map view_initialiser d.init)) c.use_dimensions.new.names c.push.new.self c.in_ok-fact.fact tt used typed
    (c.in_ok-push.ensures.added ∙ ap (λ (n : List _). c.args.found.now ++ record { name = n; ty = c.in_ok-fact.fact.ty } ∷ []) c.member_name.ensures))

pub returns-clause-members : goal.returns-clause-members
returns-clause-members c =
    let m : MemberInfo = record { name = c.member_name.result.now; ty = c.in_ok-fact.fact.ty } in
    so_far_more c.args.last (structs_of c.use_dimensions.new.names) c.args.found.now c.push.new.self m c.in_ok-push.ensures.added
    (complete_kept c.args.names.now c.use_dimensions.new.names c.args.found.now c.in_ok-use_dimensions.ensures.extends c.requires.members) c.in_ok-fact.ensures.sound c.in_ok-fact.ensures.may

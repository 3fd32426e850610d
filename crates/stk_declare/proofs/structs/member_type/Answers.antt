use Rattle.std.proofs.Common.{◌≡◌, ◌∙◌, ℕ, List, ap, subst}
use Rattle.std.specs.Option.{option_map}
use Rattle.stk_ctype.specs.Structs.{structs_of}
use Rattle.stk_ctype.specs.Types.{type_of}
use Rattle.stk_tree.specs.declared.declaration.Declr.{out-Declr}
use Rattle.stk_tree.specs.View.{maybe_initialiser, view_initialiser, view_tail}
use Rattle.stk_type_rules.specs.Outcome.{finish}
use Rattle.stk_typing.specs.declared.arrays.Size.{Size}
use Rattle.stk_typing.specs.Arrays.{declared_type, starred}
use Rattle.stk_declare.specs.Answers.{Answers}
use Rattle.stk_declare.specs.Structs.{member_rule, member_size_first}
use Rattle.stk_declare.proofs.Entries.{IsFact, member_gives}
use Rattle.stk_declare.proofs.Settled.{passed_on}
use Rattle.stk_declare.proofs.Views.{view_declarator_node}
use Rattle.stk_declare.proofs.structs.member_type.Goals as goal

pub member_rule-made-requires : goal.member_rule-made-requires
member_rule-made-requires c = c.member_size_first-made.ensures.sound (structs_of c.args.names.now) c.declared_type-made.ensures.sound

pub returns-clause-gives : goal.returns-clause-gives
returns-clause-gives c =
    let d = out-Declr c.args.d.now in
    let whole : type_of c.in_ok-whole.whole ≡ starred d.stars (type_of c.args.ty.now) = c.in_ok-whole.ensures.is ∙ ap (λ t. starred d.stars (type_of t)) c.in_ok-copy.ensures in
    let sized = rw c.array_parts.ensures at c.in_ok-sizes.ensures in
    let es = structs_of c.args.names.now in
    let ruled =
    subst (λ (n : List ℕ). Answers IsFact (finish d.node.number (member_rule es c.args.last c.args.found.now n (member_size_first c.args.last c.args.found.now c.in_ok-sizes.sizes.items (declared_type es c.in_ok-sizes.sizes.items (type_of c.in_ok-whole.whole))))) c.settled.result) c.member_name.ensures
    (subst (λ (z : List Size). Answers IsFact (finish d.node.number (member_rule es c.args.last c.args.found.now c.member_name.result.now (member_size_first c.args.last c.args.found.now z (declared_type es z (type_of c.in_ok-whole.whole))))) c.settled.result) c.as_slice-parts.ensures.value
    (c.settled.ensures.fact _ (c.member_rule-made.ensures.fact _ (c.member_size_first-made.ensures.fact _ c.declared_type-made.ensures.fact)))) in
    rw (view_declarator_node c.args.d.now)
    (member_gives c.args.bytes.now c.args.names.now c.args.found.now c.args.last (type_of c.args.ty.now) d.node d.stars d.name (view_tail d.tail) (maybe_initialiser (option_map view_initialiser d.init)) (type_of c.in_ok-whole.whole) c.in_ok-sizes.sizes c.settled.result whole sized ruled)

pub returns-clause-may : goal.returns-clause-may
returns-clause-may c = passed_on c.member_rule-made.result c.settled.result _ c.settled.ensures.same c.member_rule-made.ensures.may

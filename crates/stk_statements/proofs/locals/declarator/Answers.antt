use Rattle.std.proofs.Common.{◌∙◌, List, map, ap, subst}
use Rattle.std.specs.Option.{option_map}
use Rattle.stk_ctype.specs.declared.ctype.CType.{CType}
use Rattle.stk_ctype.specs.Types.{TypeTree, type_of}
use Rattle.stk_tree.specs.declared.declaration.Declr.{out-Declr}
use Rattle.stk_tree.specs.View.{maybe_initialiser, view_initialiser, view_tail}
use Rattle.stk_type_rules.specs.Facts.{fact_of}
use Rattle.stk_type_rules.specs.Outcome.{Gives}
use Rattle.stk_typing.specs.Arrays.{starred}
use Rattle.stk_typing.specs.Locals.{local_of}
use Rattle.stk_typing.specs.Scope.{unevaluated}
use Rattle.stk_typing.specs.declared.arrays.Size.{Size}
use Rattle.stk_typing.specs.Typing.{dimensions_typed}
use Rattle.stk_declarators.specs.Parameters.{array_parts}
use Rattle.stk_function_types.specs.Locals.{local_name, local_sized}
use Rattle.stk_statements.specs.Places.{body_in}
use Rattle.stk_statements.specs.Rows.{AreLocals}
use Rattle.stk_statements.proofs.Declaring.{declared_is, view_declarator_node}
use Rattle.stk_statements.proofs.locals.declarator.Goals as goal

pub returns-clause-gives : goal.returns-clause-gives
returns-clause-gives c =
    let p = c.args.p.now in
    let d = out-Declr c.args.d.now in
    let b = body_in p c.args.locals.now in
    let name = local_name p.file.bytes.now d.name in
    let init = maybe_initialiser (option_map view_initialiser d.init) in
    let before = map local_of c.args.locals.now in
    let now = map local_of c.sized.new.locals in
    let same = c.in_ok-whole.ensures.is ∙ ap (λ (x : CType). starred d.stars (type_of x)) c.in_ok-copy.ensures in
    rw (view_declarator_node c.args.d.now)
    (declared_is (dimensions_typed (unevaluated b.scope) (array_parts (view_tail d.tail))) (λ (z : List Size). local_sized b c.args.is_static name d.node.number (starred d.stars (type_of c.args.ty.now)) init z) c.in_ok-sizes.sizes before now c.sized.result
    (map fact_of c.args.facts.now.items) (map fact_of c.part_sizes.new.facts.items) (map fact_of c.sized.new.facts.items) c.in_ok-sizes.ensures.gives
    (subst (λ (t : TypeTree). Gives (AreLocals before now) (local_sized b c.args.is_static name d.node.number t init c.in_ok-sizes.sizes.items) c.sized.result (map fact_of c.part_sizes.new.facts.items) (map fact_of c.sized.new.facts.items)) same c.sized.ensures.gives))

-- What initialisers of the code show, and what typing them is.
use Rattle.std.proofs.Common.{◌≡◌, [], map, sym, ap, ◌∙◌}
use Rattle.stk_tree.specs.declared.declaration.Desig.{Desig, Desig-F, fold-roll-Desig}
use Rattle.stk_tree.specs.declared.declaration.Desig.TheVariants as desig
use Rattle.stk_tree.specs.declared.declaration.Init.{Init, Init-F, fold-roll-Init}
use Rattle.stk_tree.specs.declared.declaration.Init.TheVariants as init
use Rattle.stk_tree.specs.declared.declaration.Item.{Item, out-Item, fold_out-Item}
use Rattle.stk_tree.specs.declared.expression.Expr.{Expr}
use Rattle.stk_tree.specs.Syntax.{BaseFormTree, DesigTree, DimensionTree, InitTree, TailTree, ExprFormTree, BaseTree, DeclrTree, EnumrTree, ItemTree, MemberTree, ParamTree, TypeNameTree, ExprTree}
use Rattle.stk_tree.specs.Syntax as s
use Rattle.stk_tree.specs.View.{base_form_step, designator_step, dimension_step, initialiser_step, tail_step, expression_form_step, base_step, declarator_step, enumerator_step, item_step, member_step, parameter_step, type_name_step, expression_step, designators, view_designator, view_expression, view_initialiser, view_item}
use Rattle.stk_type_rules.specs.Outcome.{Good, and_then}
use Rattle.stk_typing.specs.Scope.{Scope, unevaluated}
use Rattle.stk_typing.specs.Typing.{expression_typed}
use Rattle.stk_typing.specs.Leaves.{leaf}
use Rattle.stk_typing.specs.InitialiserTyping.{designator_typed, designators_typed, initialiser_typed, item_typed}

pub at_typed : (scope : Scope) (d : Desig) (e : Expr) → d ≡ desig.At e → designator_typed scope (view_designator d) ≡ and_then (expression_typed scope (view_expression e)) (λ x. Good tt [])
at_typed scope d e is = ap (designator_typed scope) (ap view_designator is ∙ (ap view_designator (sym (desig.rolls-At e)) ∙ fold-roll-Desig BaseFormTree DesigTree DimensionTree InitTree TailTree ExprFormTree BaseTree DeclrTree EnumrTree ItemTree MemberTree ParamTree TypeNameTree ExprTree base_form_step designator_step dimension_step initialiser_step tail_step expression_form_step base_step declarator_step enumerator_step item_step member_step parameter_step type_name_step expression_step (Desig-F.At e)))

pub plain_typed : (scope : Scope) (i : Init) (e : Expr) → i ≡ init.Plain e → initialiser_typed scope (view_initialiser i) ≡ and_then (expression_typed scope (view_expression e)) (λ x. Good (leaf x) [])
plain_typed scope i e is = ap (initialiser_typed scope) (ap view_initialiser is ∙ (ap view_initialiser (sym (init.rolls-Plain e)) ∙ fold-roll-Init BaseFormTree DesigTree DimensionTree InitTree TailTree ExprFormTree BaseTree DeclrTree EnumrTree ItemTree MemberTree ParamTree TypeNameTree ExprTree base_form_step designator_step dimension_step initialiser_step tail_step expression_form_step base_step declarator_step enumerator_step item_step member_step parameter_step type_name_step expression_step (Init-F.Plain e)))

view_parts : (i : Item) → view_item i ≡ s.item (designators (map view_designator (out-Item i).path)) (view_initialiser (out-Item i).init)
view_parts i = fold_out-Item BaseFormTree DesigTree DimensionTree InitTree TailTree ExprFormTree BaseTree DeclrTree EnumrTree ItemTree MemberTree ParamTree TypeNameTree ExprTree base_form_step designator_step dimension_step initialiser_step tail_step expression_form_step base_step declarator_step enumerator_step item_step member_step parameter_step type_name_step expression_step i

pub parts_typed : (scope : Scope) (i : Item)
    → item_typed scope (view_item i) ≡ and_then (designators_typed (unevaluated scope) (designators (map view_designator (out-Item i).path))) (λ u. initialiser_typed scope (view_initialiser (out-Item i).init))
parts_typed scope i = ap (item_typed scope) (view_parts i)

-- What the initialisers of the code show.
use Rattle.std.proofs.Common.{◌≡◌, Bool, List, map, sym, ap, ◌∙◌}
use Rattle.stk_tree.specs.declared.declaration.Init.{Init, Init-F, fold-roll-Init}
use Rattle.stk_tree.specs.declared.declaration.Init.TheVariants as init
use Rattle.stk_tree.specs.declared.declaration.Item.{Item}
use Rattle.stk_tree.specs.declared.expression.Expr.{Expr}
use Rattle.stk_tree.specs.Syntax.{BaseFormTree, DesigTree, DimensionTree, InitTree, TailTree, ExprFormTree, BaseTree, DeclrTree, EnumrTree, ItemTree, MemberTree, ParamTree, TypeNameTree, ExprTree}
use Rattle.stk_tree.specs.Syntax as s
use Rattle.stk_tree.specs.View.{base_form_step, designator_step, dimension_step, initialiser_step, tail_step, expression_form_step, base_step, declarator_step, enumerator_step, item_step, member_step, parameter_step, type_name_step, expression_step, items, view_expression, view_initialiser, view_item}

pub at_plain : (i : Init) (e : Expr) → i ≡ init.Plain e → view_initialiser i ≡ s.plain (view_expression e)
at_plain i e is = ap view_initialiser is ∙ (ap view_initialiser (sym (init.rolls-Plain e)) ∙ fold-roll-Init BaseFormTree DesigTree DimensionTree InitTree TailTree ExprFormTree BaseTree DeclrTree EnumrTree ItemTree MemberTree ParamTree TypeNameTree ExprTree base_form_step designator_step dimension_step initialiser_step tail_step expression_form_step base_step declarator_step enumerator_step item_step member_step parameter_step type_name_step expression_step (Init-F.Plain e))

pub at_braces : (i : Init) (xs : List Item) (comma : Bool) → i ≡ init.Braces xs comma → view_initialiser i ≡ s.braces (items (map view_item xs)) comma
at_braces i xs comma is = ap view_initialiser is ∙ (ap view_initialiser (sym (init.rolls-Braces xs comma)) ∙ fold-roll-Init BaseFormTree DesigTree DimensionTree InitTree TailTree ExprFormTree BaseTree DeclrTree EnumrTree ItemTree MemberTree ParamTree TypeNameTree ExprTree base_form_step designator_step dimension_step initialiser_step tail_step expression_form_step base_step declarator_step enumerator_step item_step member_step parameter_step type_name_step expression_step (Init-F.Braces xs comma))

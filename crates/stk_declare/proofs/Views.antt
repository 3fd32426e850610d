-- What the trees of the code show: bases, members, enumerators, declarators.
use Rattle.std.proofs.Common.{◌≡◌, ◌∙◌, List, map, Option, Some, None, Bool, refl, sym, ap}
use Rattle.std.specs.Option.{option_map}
use Rattle.stk_base.specs.declared.span.Span.{Span}
use Rattle.stk_tree.specs.declared.fixed.Fixed.{Fixed}
use Rattle.stk_tree.specs.declared.declaration.Base.{Base, out-Base, fold_out-Base}
use Rattle.stk_tree.specs.declared.declaration.BaseForm.{BaseForm-F, fold-roll-BaseForm}
use Rattle.stk_tree.specs.declared.declaration.BaseForm.TheVariants as form
use Rattle.stk_tree.specs.declared.declaration.Declr.{Declr, out-Declr, fold_out-Declr}
use Rattle.stk_tree.specs.declared.declaration.Enumr.{Enumr, out-Enumr, fold_out-Enumr}
use Rattle.stk_tree.specs.declared.declaration.Member.{Member, out-Member, fold_out-Member}
use Rattle.stk_tree.specs.declared.declaration.Init.{Init}
use Rattle.stk_tree.specs.declared.expression.Expr.{Expr}
use Rattle.stk_tree.specs.Syntax.{BaseFormTree, DesigTree, DimensionTree, InitTree, TailTree, ExprFormTree, BaseTree, DeclrTree, EnumrTree, ItemTree, MemberTree, ParamTree, TypeNameTree, ExprTree}
use Rattle.stk_tree.specs.Syntax as s
use Rattle.stk_tree.specs.View.{base_form_step, designator_step, dimension_step, initialiser_step, tail_step, expression_form_step, base_step, declarator_step, enumerator_step, item_step, member_step, parameter_step, type_name_step, expression_step, members, enumerators, declarators, maybe_initialiser, given_expression, view_base, view_base_form, view_declarator, view_enumerator, view_initialiser, view_member, view_tail}

pub view_base_node : (b : Base) → view_base b ≡ s.base (out-Base b).node (view_base_form (out-Base b).form)
view_base_node b = fold_out-Base BaseFormTree DesigTree DimensionTree InitTree TailTree ExprFormTree BaseTree DeclrTree EnumrTree ItemTree MemberTree ParamTree TypeNameTree ExprTree base_form_step designator_step dimension_step initialiser_step tail_step expression_form_step base_step declarator_step enumerator_step item_step member_step parameter_step type_name_step expression_step b

pub view_struct_def : (tag : Option Span) (ms : List Member) → view_base_form (form.StructDef tag ms) ≡ s.struct_def tag (members (map view_member ms))
view_struct_def tag ms = ap view_base_form (sym (form.rolls-StructDef tag ms)) ∙ fold-roll-BaseForm BaseFormTree DesigTree DimensionTree InitTree TailTree ExprFormTree BaseTree DeclrTree EnumrTree ItemTree MemberTree ParamTree TypeNameTree ExprTree base_form_step designator_step dimension_step initialiser_step tail_step expression_form_step base_step declarator_step enumerator_step item_step member_step parameter_step type_name_step expression_step (BaseForm-F.StructDef tag ms)

pub view_enum_def : (tag : Option Span) (es : List Enumr) (comma : Bool) → view_base_form (form.EnumDef tag es comma) ≡ s.enum_def tag (enumerators (map view_enumerator es)) comma
view_enum_def tag es comma = ap view_base_form (sym (form.rolls-EnumDef tag es comma)) ∙ fold-roll-BaseForm BaseFormTree DesigTree DimensionTree InitTree TailTree ExprFormTree BaseTree DeclrTree EnumrTree ItemTree MemberTree ParamTree TypeNameTree ExprTree base_form_step designator_step dimension_step initialiser_step tail_step expression_form_step base_step declarator_step enumerator_step item_step member_step parameter_step type_name_step expression_step (BaseForm-F.EnumDef tag es comma)

pub view_words : (ws : List Fixed) → view_base_form (form.Words ws) ≡ s.words ws
view_words ws = ap view_base_form (sym (form.rolls-Words ws)) ∙ fold-roll-BaseForm BaseFormTree DesigTree DimensionTree InitTree TailTree ExprFormTree BaseTree DeclrTree EnumrTree ItemTree MemberTree ParamTree TypeNameTree ExprTree base_form_step designator_step dimension_step initialiser_step tail_step expression_form_step base_step declarator_step enumerator_step item_step member_step parameter_step type_name_step expression_step (BaseForm-F.Words ws)

pub view_struct_ref : (at : Span) → view_base_form (form.StructRef at) ≡ s.struct_ref at
view_struct_ref at = ap view_base_form (sym (form.rolls-StructRef at)) ∙ fold-roll-BaseForm BaseFormTree DesigTree DimensionTree InitTree TailTree ExprFormTree BaseTree DeclrTree EnumrTree ItemTree MemberTree ParamTree TypeNameTree ExprTree base_form_step designator_step dimension_step initialiser_step tail_step expression_form_step base_step declarator_step enumerator_step item_step member_step parameter_step type_name_step expression_step (BaseForm-F.StructRef at)

pub view_enum_ref : (at : Span) → view_base_form (form.EnumRef at) ≡ s.enum_ref at
view_enum_ref at = ap view_base_form (sym (form.rolls-EnumRef at)) ∙ fold-roll-BaseForm BaseFormTree DesigTree DimensionTree InitTree TailTree ExprFormTree BaseTree DeclrTree EnumrTree ItemTree MemberTree ParamTree TypeNameTree ExprTree base_form_step designator_step dimension_step initialiser_step tail_step expression_form_step base_step declarator_step enumerator_step item_step member_step parameter_step type_name_step expression_step (BaseForm-F.EnumRef at)

pub view_named : (at : Span) → view_base_form (form.Named at) ≡ s.named at
view_named at = ap view_base_form (sym (form.rolls-Named at)) ∙ fold-roll-BaseForm BaseFormTree DesigTree DimensionTree InitTree TailTree ExprFormTree BaseTree DeclrTree EnumrTree ItemTree MemberTree ParamTree TypeNameTree ExprTree base_form_step designator_step dimension_step initialiser_step tail_step expression_form_step base_step declarator_step enumerator_step item_step member_step parameter_step type_name_step expression_step (BaseForm-F.Named at)

pub view_member_node : (m : Member) → view_member m ≡ s.member (view_base (out-Member m).base) (declarators (map view_declarator (out-Member m).list))
view_member_node m = fold_out-Member BaseFormTree DesigTree DimensionTree InitTree TailTree ExprFormTree BaseTree DeclrTree EnumrTree ItemTree MemberTree ParamTree TypeNameTree ExprTree base_form_step designator_step dimension_step initialiser_step tail_step expression_form_step base_step declarator_step enumerator_step item_step member_step parameter_step type_name_step expression_step m

pub view_enumerator_node : (e : Enumr) → view_enumerator e ≡ s.enumerator (out-Enumr e).name (given_expression (out-Enumr e).value)
view_enumerator_node e = on (out-Enumr e).value refl where
  on : (o : Option Expr) → (out-Enumr e).value ≡ o → view_enumerator e ≡ s.enumerator (out-Enumr e).name (given_expression (out-Enumr e).value)
  on None h = fold_out-Enumr BaseFormTree DesigTree DimensionTree InitTree TailTree ExprFormTree BaseTree DeclrTree EnumrTree ItemTree MemberTree ParamTree TypeNameTree ExprTree base_form_step designator_step dimension_step initialiser_step tail_step expression_form_step base_step declarator_step enumerator_step item_step member_step parameter_step type_name_step expression_step e ∙ rw h refl
  on (Some x) h = fold_out-Enumr BaseFormTree DesigTree DimensionTree InitTree TailTree ExprFormTree BaseTree DeclrTree EnumrTree ItemTree MemberTree ParamTree TypeNameTree ExprTree base_form_step designator_step dimension_step initialiser_step tail_step expression_form_step base_step declarator_step enumerator_step item_step member_step parameter_step type_name_step expression_step e ∙ rw h refl

pub view_declarator_node : (d : Declr) → view_declarator d ≡ s.declarator (out-Declr d).node (out-Declr d).stars (out-Declr d).name (view_tail (out-Declr d).tail) (maybe_initialiser (option_map view_initialiser (out-Declr d).init))
view_declarator_node d = on (out-Declr d).init refl where
  on : (o : Option Init) → (out-Declr d).init ≡ o → view_declarator d ≡ s.declarator (out-Declr d).node (out-Declr d).stars (out-Declr d).name (view_tail (out-Declr d).tail) (maybe_initialiser (option_map view_initialiser (out-Declr d).init))
  on None h = fold_out-Declr BaseFormTree DesigTree DimensionTree InitTree TailTree ExprFormTree BaseTree DeclrTree EnumrTree ItemTree MemberTree ParamTree TypeNameTree ExprTree base_form_step designator_step dimension_step initialiser_step tail_step expression_form_step base_step declarator_step enumerator_step item_step member_step parameter_step type_name_step expression_step d ∙ rw h refl
  on (Some i) h = fold_out-Declr BaseFormTree DesigTree DimensionTree InitTree TailTree ExprFormTree BaseTree DeclrTree EnumrTree ItemTree MemberTree ParamTree TypeNameTree ExprTree base_form_step designator_step dimension_step initialiser_step tail_step expression_form_step base_step declarator_step enumerator_step item_step member_step parameter_step type_name_step expression_step d ∙ rw h refl

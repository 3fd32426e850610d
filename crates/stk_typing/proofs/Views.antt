-- What the trees of the code show, form by form, and what typing a form is by how many operands it has.
use Rattle.std.proofs.Common.{◌≡◌, List, ◌⊎◌, inl, inr, map, refl, sym, ap, ◌∙◌, subst, [], Option, None}
use Rattle.stk_base.specs.declared.span.Span.{Span}
use Rattle.stk_tree.specs.declared.expression.StepOp.{StepOp}
use Rattle.stk_tree.specs.declared.expression.UnaryOp.{UnaryOp}
use Rattle.stk_tree.specs.declared.expression.BinaryOp.{BinaryOp}
use Rattle.stk_tree.specs.declared.expression.AssignOp.{AssignOp}
use Rattle.stk_tree.specs.declared.declaration.TypeName.{TypeName, out-TypeName, fold_out-TypeName}
use Rattle.stk_tree.specs.declared.declaration.Dimension.{Dimension, Dimension-F, fold-roll-Dimension}
use Rattle.stk_tree.specs.declared.declaration.Dimension.TheVariants as dimension
use Rattle.stk_tree.specs.declared.expression.Expr.{Expr, out-Expr, fold_out-Expr}
use Rattle.stk_tree.specs.declared.expression.ExprForm.{ExprForm, ExprForm-F, fold-roll-ExprForm}
use Rattle.stk_tree.specs.declared.expression.ExprForm.TheVariants as form
use Rattle.stk_tree.specs.Syntax.{BaseFormTree, DesigTree, DimensionTree, InitTree, TailTree, ExprFormTree, BaseTree, DeclrTree, EnumrTree, ItemTree, MemberTree, ParamTree, TypeNameTree, ExprTree}
use Rattle.stk_tree.specs.Syntax as s
use Rattle.stk_tree.specs.View.{base_form_step, designator_step, dimension_step, initialiser_step, tail_step, expression_form_step, base_step, declarator_step, enumerator_step, item_step, member_step, parameter_step, type_name_step, expression_step, expressions, dimensions, view_expression, view_expression_form, view_type_name, view_base, view_dimension}
use Rattle.stk_tree.specs.Parts.{name_in}
use Rattle.stk_type_rules.specs.Facts.{Fact}
use Rattle.stk_type_rules.specs.Outcome.{Outcome, Good, and_then, finish}
use Rattle.stk_type_rules.specs.Rules.{size_rule, type_size_rule, cast_rule, choice_rule}
use Rattle.stk_typing.specs.Scope.{Scope, unevaluated}
use Rattle.stk_typing.specs.declared.arrays.Size.TheVariants.{Sized}
use Rattle.stk_typing.specs.Arrays.{starred, sized_type}
use Rattle.stk_typing.specs.Calls.{call_rule, callee_by}
use Rattle.stk_typing.specs.Forms.{structs_in, single_rule, pair_rule}
use Rattle.stk_typing.specs.Typing.{base_typed, expression_typed, form_typed, callee_typed, arguments_typed, type_name_typed, dimension_typed, dimensions_typed}

pub view_node : (e : Expr) → view_expression e ≡ s.expression (out-Expr e).node (view_expression_form (out-Expr e).form)
view_node e = fold_out-Expr BaseFormTree DesigTree DimensionTree InitTree TailTree ExprFormTree BaseTree DeclrTree EnumrTree ItemTree MemberTree ParamTree TypeNameTree ExprTree base_form_step designator_step dimension_step initialiser_step tail_step expression_form_step base_step declarator_step enumerator_step item_step member_step parameter_step type_name_step expression_step e

pub view_named : (t : TypeName) → view_type_name t ≡ s.type_name (out-TypeName t).node (view_base (out-TypeName t).base) (out-TypeName t).stars (dimensions (map view_dimension (out-TypeName t).arrays))
view_named t = fold_out-TypeName BaseFormTree DesigTree DimensionTree InitTree TailTree ExprFormTree BaseTree DeclrTree EnumrTree ItemTree MemberTree ParamTree TypeNameTree ExprTree base_form_step designator_step dimension_step initialiser_step tail_step expression_form_step base_step declarator_step enumerator_step item_step member_step parameter_step type_name_step expression_step t

view_paren : (x : Expr) → view_expression_form (form.Paren x) ≡ s.paren (view_expression x)
view_paren x = ap view_expression_form (sym (form.rolls-Paren x)) ∙ fold-roll-ExprForm BaseFormTree DesigTree DimensionTree InitTree TailTree ExprFormTree BaseTree DeclrTree EnumrTree ItemTree MemberTree ParamTree TypeNameTree ExprTree base_form_step designator_step dimension_step initialiser_step tail_step expression_form_step base_step declarator_step enumerator_step item_step member_step parameter_step type_name_step expression_step (ExprForm-F.Paren x)

view_dot : (x : Expr) (at : Span) → view_expression_form (form.Dot x at) ≡ s.dot (view_expression x) at
view_dot x at = ap view_expression_form (sym (form.rolls-Dot x at)) ∙ fold-roll-ExprForm BaseFormTree DesigTree DimensionTree InitTree TailTree ExprFormTree BaseTree DeclrTree EnumrTree ItemTree MemberTree ParamTree TypeNameTree ExprTree base_form_step designator_step dimension_step initialiser_step tail_step expression_form_step base_step declarator_step enumerator_step item_step member_step parameter_step type_name_step expression_step (ExprForm-F.ExprForm::Dot x at)

view_arrow : (x : Expr) (at : Span) → view_expression_form (form.Arrow x at) ≡ s.arrow (view_expression x) at
view_arrow x at = ap view_expression_form (sym (form.rolls-Arrow x at)) ∙ fold-roll-ExprForm BaseFormTree DesigTree DimensionTree InitTree TailTree ExprFormTree BaseTree DeclrTree EnumrTree ItemTree MemberTree ParamTree TypeNameTree ExprTree base_form_step designator_step dimension_step initialiser_step tail_step expression_form_step base_step declarator_step enumerator_step item_step member_step parameter_step type_name_step expression_step (ExprForm-F.Arrow x at)

view_step : (op : StepOp) (x : Expr) → view_expression_form (form.Step op x) ≡ s.step op (view_expression x)
view_step op x = ap view_expression_form (sym (form.rolls-Step op x)) ∙ fold-roll-ExprForm BaseFormTree DesigTree DimensionTree InitTree TailTree ExprFormTree BaseTree DeclrTree EnumrTree ItemTree MemberTree ParamTree TypeNameTree ExprTree base_form_step designator_step dimension_step initialiser_step tail_step expression_form_step base_step declarator_step enumerator_step item_step member_step parameter_step type_name_step expression_step (ExprForm-F.Step op x)

view_unary : (op : UnaryOp) (x : Expr) → view_expression_form (form.Unary op x) ≡ s.unary op (view_expression x)
view_unary op x = ap view_expression_form (sym (form.rolls-Unary op x)) ∙ fold-roll-ExprForm BaseFormTree DesigTree DimensionTree InitTree TailTree ExprFormTree BaseTree DeclrTree EnumrTree ItemTree MemberTree ParamTree TypeNameTree ExprTree base_form_step designator_step dimension_step initialiser_step tail_step expression_form_step base_step declarator_step enumerator_step item_step member_step parameter_step type_name_step expression_step (ExprForm-F.Unary op x)

view_index : (a b : Expr) → view_expression_form (form.Index a b) ≡ s.index (view_expression a) (view_expression b)
view_index a b = ap view_expression_form (sym (form.rolls-Index a b)) ∙ fold-roll-ExprForm BaseFormTree DesigTree DimensionTree InitTree TailTree ExprFormTree BaseTree DeclrTree EnumrTree ItemTree MemberTree ParamTree TypeNameTree ExprTree base_form_step designator_step dimension_step initialiser_step tail_step expression_form_step base_step declarator_step enumerator_step item_step member_step parameter_step type_name_step expression_step (ExprForm-F.Index a b)

view_binary : (op : BinaryOp) (a b : Expr) → view_expression_form (form.Binary op a b) ≡ s.binary op (view_expression a) (view_expression b)
view_binary op a b = ap view_expression_form (sym (form.rolls-Binary op a b)) ∙ fold-roll-ExprForm BaseFormTree DesigTree DimensionTree InitTree TailTree ExprFormTree BaseTree DeclrTree EnumrTree ItemTree MemberTree ParamTree TypeNameTree ExprTree base_form_step designator_step dimension_step initialiser_step tail_step expression_form_step base_step declarator_step enumerator_step item_step member_step parameter_step type_name_step expression_step (ExprForm-F.Binary op a b)

view_assign : (op : AssignOp) (a b : Expr) → view_expression_form (form.Assign op a b) ≡ s.assign op (view_expression a) (view_expression b)
view_assign op a b = ap view_expression_form (sym (form.rolls-Assign op a b)) ∙ fold-roll-ExprForm BaseFormTree DesigTree DimensionTree InitTree TailTree ExprFormTree BaseTree DeclrTree EnumrTree ItemTree MemberTree ParamTree TypeNameTree ExprTree base_form_step designator_step dimension_step initialiser_step tail_step expression_form_step base_step declarator_step enumerator_step item_step member_step parameter_step type_name_step expression_step (ExprForm-F.Assign op a b)

view_choice : (a b c : Expr) → view_expression_form (form.Choice a b c) ≡ s.choice (view_expression a) (view_expression b) (view_expression c)
view_choice a b c = ap view_expression_form (sym (form.rolls-Choice a b c)) ∙ fold-roll-ExprForm BaseFormTree DesigTree DimensionTree InitTree TailTree ExprFormTree BaseTree DeclrTree EnumrTree ItemTree MemberTree ParamTree TypeNameTree ExprTree base_form_step designator_step dimension_step initialiser_step tail_step expression_form_step base_step declarator_step enumerator_step item_step member_step parameter_step type_name_step expression_step (ExprForm-F.Choice a b c)

view_sizeexpr : (x : Expr) → view_expression_form (form.SizeExpr x) ≡ s.size_expression (view_expression x)
view_sizeexpr x = ap view_expression_form (sym (form.rolls-SizeExpr x)) ∙ fold-roll-ExprForm BaseFormTree DesigTree DimensionTree InitTree TailTree ExprFormTree BaseTree DeclrTree EnumrTree ItemTree MemberTree ParamTree TypeNameTree ExprTree base_form_step designator_step dimension_step initialiser_step tail_step expression_form_step base_step declarator_step enumerator_step item_step member_step parameter_step type_name_step expression_step (ExprForm-F.SizeExpr x)

view_sizename : (t : TypeName) → view_expression_form (form.SizeName t) ≡ s.size_name (view_type_name t)
view_sizename t = ap view_expression_form (sym (form.rolls-SizeName t)) ∙ fold-roll-ExprForm BaseFormTree DesigTree DimensionTree InitTree TailTree ExprFormTree BaseTree DeclrTree EnumrTree ItemTree MemberTree ParamTree TypeNameTree ExprTree base_form_step designator_step dimension_step initialiser_step tail_step expression_form_step base_step declarator_step enumerator_step item_step member_step parameter_step type_name_step expression_step (ExprForm-F.SizeName t)

view_cast : (t : TypeName) (x : Expr) → view_expression_form (form.Cast t x) ≡ s.cast (view_type_name t) (view_expression x)
view_cast t x = ap view_expression_form (sym (form.rolls-Cast t x)) ∙ fold-roll-ExprForm BaseFormTree DesigTree DimensionTree InitTree TailTree ExprFormTree BaseTree DeclrTree EnumrTree ItemTree MemberTree ParamTree TypeNameTree ExprTree base_form_step designator_step dimension_step initialiser_step tail_step expression_form_step base_step declarator_step enumerator_step item_step member_step parameter_step type_name_step expression_step (ExprForm-F.Cast t x)

view_call : (f : Expr) (args : List Expr) → view_expression_form (form.Call f args) ≡ s.call (view_expression f) (expressions (map view_expression args))
view_call f args = ap view_expression_form (sym (form.rolls-Call f args)) ∙ fold-roll-ExprForm BaseFormTree DesigTree DimensionTree InitTree TailTree ExprFormTree BaseTree DeclrTree EnumrTree ItemTree MemberTree ParamTree TypeNameTree ExprTree base_form_step designator_step dimension_step initialiser_step tail_step expression_form_step base_step declarator_step enumerator_step item_step member_step parameter_step type_name_step expression_step (ExprForm-F.Call f args)

-- an expression whose form shows this
by_form : (scope : Scope) (e : Expr) (f : ExprFormTree) (rest : ExprFormTree → Outcome Fact) → view_expression_form (out-Expr e).form ≡ f → form_typed scope (out-Expr e).node.number f ≡ rest f
    → expression_typed scope (view_expression e) ≡ rest (view_expression_form (out-Expr e).form)
by_form scope e f rest v h = ap (expression_typed scope) (view_node e) ∙ subst (λ (z : ExprFormTree). form_typed scope (out-Expr e).node.number z ≡ rest z) (sym v) h

-- the forms with one operand
abbrev pub IsSingle : ExprForm → Expr → Type 0
IsSingle f x = (f ≡ form.Paren x) ⊎ (((at : Span) × (f ≡ form.Dot x at)) ⊎ (((at : Span) × (f ≡ form.Arrow x at)) ⊎ (((op : StepOp) × (f ≡ form.Step op x)) ⊎ ((op : UnaryOp) × (f ≡ form.Unary op x)))))

pub single_typed : (scope : Scope) (e x : Expr) → IsSingle (out-Expr e).form x
    → expression_typed scope (view_expression e) ≡ and_then (expression_typed scope (view_expression x)) (λ v. finish (out-Expr e).node.number (single_rule scope (view_expression_form (out-Expr e).form) v))
single_typed scope e x is =
    let rest : ExprFormTree → Outcome Fact = λ z. and_then (expression_typed scope (view_expression x)) (λ v. finish (out-Expr e).node.number (single_rule scope z v)) in
    elim is [
      | inl is ↦ by_form scope e (s.paren (view_expression x)) rest (ap view_expression_form is ∙ view_paren x) refl
      | inr more ↦ elim more [
        | inl (at, is) ↦ by_form scope e (s.dot (view_expression x) at) rest (ap view_expression_form is ∙ view_dot x at) refl
        | inr more ↦ elim more [
          | inl (at, is) ↦ by_form scope e (s.arrow (view_expression x) at) rest (ap view_expression_form is ∙ view_arrow x at) refl
          | inr more ↦ elim more [
            | inl (op, is) ↦ by_form scope e (s.step op (view_expression x)) rest (ap view_expression_form is ∙ view_step op x) refl
            | inr (op, is) ↦ by_form scope e (s.unary op (view_expression x)) rest (ap view_expression_form is ∙ view_unary op x) refl
          ]
        ]
      ]
    ]

-- the forms with two operands
abbrev pub IsPair : ExprForm → Expr → Expr → Type 0
IsPair f a b = (f ≡ form.Index a b) ⊎ (((op : BinaryOp) × (f ≡ form.Binary op a b)) ⊎ ((op : AssignOp) × (f ≡ form.Assign op a b)))

pub pair_typed : (scope : Scope) (e a b : Expr) → IsPair (out-Expr e).form a b
    → expression_typed scope (view_expression e) ≡ and_then (expression_typed scope (view_expression a)) (λ x. and_then (expression_typed scope (view_expression b)) (λ y. finish (out-Expr e).node.number (pair_rule scope (view_expression_form (out-Expr e).form) x y)))
pair_typed scope e a b is =
    let rest : ExprFormTree → Outcome Fact = λ z. and_then (expression_typed scope (view_expression a)) (λ x. and_then (expression_typed scope (view_expression b)) (λ y. finish (out-Expr e).node.number (pair_rule scope z x y))) in
    elim is [
      | inl is ↦ by_form scope e (s.index (view_expression a) (view_expression b)) rest (ap view_expression_form is ∙ view_index a b) refl
      | inr more ↦ elim more [
        | inl (op, is) ↦ by_form scope e (s.binary op (view_expression a) (view_expression b)) rest (ap view_expression_form is ∙ view_binary op a b) refl
        | inr (op, is) ↦ by_form scope e (s.assign op (view_expression a) (view_expression b)) rest (ap view_expression_form is ∙ view_assign op a b) refl
      ]
    ]

pub choice_typed : (scope : Scope) (e : Expr) (a b c : Expr) → (out-Expr e).form ≡ form.Choice a b c
    → expression_typed scope (view_expression e) ≡ and_then (expression_typed scope (view_expression a)) (λ x. and_then (expression_typed scope (view_expression b)) (λ y. and_then (expression_typed scope (view_expression c)) (λ z. finish (out-Expr e).node.number (choice_rule x y z))))
choice_typed scope e a b c is = by_form scope e (s.choice (view_expression a) (view_expression b) (view_expression c)) (λ z. and_then (expression_typed scope (view_expression a)) (λ x. and_then (expression_typed scope (view_expression b)) (λ y. and_then (expression_typed scope (view_expression c)) (λ z. finish (out-Expr e).node.number (choice_rule x y z))))) (ap view_expression_form is ∙ view_choice a b c) refl

pub size_typed : (scope : Scope) (e : Expr) (x : Expr) → (out-Expr e).form ≡ form.SizeExpr x
    → expression_typed scope (view_expression e) ≡ and_then (expression_typed (unevaluated scope) (view_expression x)) (λ v. finish (out-Expr e).node.number (size_rule (structs_in scope) v))
size_typed scope e x is = by_form scope e (s.size_expression (view_expression x)) (λ z. and_then (expression_typed (unevaluated scope) (view_expression x)) (λ v. finish (out-Expr e).node.number (size_rule (structs_in scope) v))) (ap view_expression_form is ∙ view_sizeexpr x) refl

pub type_size_typed : (scope : Scope) (e : Expr) (t : TypeName) → (out-Expr e).form ≡ form.SizeName t
    → expression_typed scope (view_expression e) ≡ and_then (type_name_typed scope (view_type_name t)) (λ v. finish (out-Expr e).node.number (type_size_rule (structs_in scope) v.ty))
type_size_typed scope e t is = by_form scope e (s.size_name (view_type_name t)) (λ z. and_then (type_name_typed scope (view_type_name t)) (λ v. finish (out-Expr e).node.number (type_size_rule (structs_in scope) v.ty))) (ap view_expression_form is ∙ view_sizename t) refl

pub cast_typed : (scope : Scope) (e : Expr) (t : TypeName) (x : Expr) → (out-Expr e).form ≡ form.Cast t x
    → expression_typed scope (view_expression e) ≡ and_then (type_name_typed scope (view_type_name t)) (λ v. and_then (expression_typed scope (view_expression x)) (λ y. finish (out-Expr e).node.number (cast_rule v.ty y)))
cast_typed scope e t x is = by_form scope e (s.cast (view_type_name t) (view_expression x)) (λ z. and_then (type_name_typed scope (view_type_name t)) (λ v. and_then (expression_typed scope (view_expression x)) (λ y. finish (out-Expr e).node.number (cast_rule v.ty y)))) (ap view_expression_form is ∙ view_cast t x) refl

pub call_typed : (scope : Scope) (e : Expr) (f : Expr) (args : List Expr) → (out-Expr e).form ≡ form.Call f args
    → expression_typed scope (view_expression e) ≡ and_then (callee_typed scope (view_expression f)) (λ c. and_then (arguments_typed scope (expressions (map view_expression args))) (λ a. finish (out-Expr e).node.number (call_rule c a)))
call_typed scope e f args is = by_form scope e (s.call (view_expression f) (expressions (map view_expression args))) (λ z. and_then (callee_typed scope (view_expression f)) (λ c. and_then (arguments_typed scope (expressions (map view_expression args))) (λ a. finish (out-Expr e).node.number (call_rule c a)))) (ap view_expression_form is ∙ view_call f args) refl

pub named_typed : (scope : Scope) (t : TypeName)
    → type_name_typed scope (view_type_name t) ≡ and_then (base_typed scope (view_base (out-TypeName t).base)) (λ x. and_then (dimensions_typed (unevaluated scope) (dimensions (map view_dimension (out-TypeName t).arrays))) (λ sizes. finish (out-TypeName t).node.number (sized_type (structs_in scope) sizes (starred (out-TypeName t).stars x.ty))))
named_typed scope t = ap (type_name_typed scope) (view_named t)

-- what is called and is no name
pub callee_other : (scope : Scope) (e : Expr) → name_in (view_expression_form (out-Expr e).form) ≡ None → callee_typed scope (view_expression e) ≡ and_then (expression_typed scope (view_expression e)) (λ x. Good None [])
callee_other scope e none =
    let k = (out-Expr e).node.number in
    let f = view_expression_form (out-Expr e).form in
    ap (callee_typed scope) (view_node e) ∙ ap (λ (o : Option Span). callee_by scope k o (form_typed scope k f)) none
    ∙ sym (ap (λ (o : Outcome Fact). and_then o (λ x. Good None [])) (ap (expression_typed scope) (view_node e)))

-- an array part with a size
pub sized_typed : (scope : Scope) (d : Dimension) (e : Expr) → d ≡ dimension.Sized e → dimension_typed scope (view_dimension d) ≡ and_then (expression_typed scope (view_expression e)) (λ x. Good (Sized x.constancy) [])
sized_typed scope d e is = ap (dimension_typed scope) (ap view_dimension is ∙ (ap view_dimension (sym (dimension.rolls-Sized e)) ∙ fold-roll-Dimension BaseFormTree DesigTree DimensionTree InitTree TailTree ExprFormTree BaseTree DeclrTree EnumrTree ItemTree MemberTree ParamTree TypeNameTree ExprTree base_form_step designator_step dimension_step initialiser_step tail_step expression_form_step base_step declarator_step enumerator_step item_step member_step parameter_step type_name_step expression_step (Dimension-F.Sized e)))

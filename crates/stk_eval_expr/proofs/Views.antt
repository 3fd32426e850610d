-- What the trees of the code show, form by form.
use Rattle.std.proofs.Common.{◌≡◌, List, map, sym, ap, ◌∙◌}
use Rattle.stk_base.specs.declared.span.Span.{Span}
use Rattle.stk_tree.specs.declared.expression.StepOp.{StepOp}
use Rattle.stk_tree.specs.declared.expression.UnaryOp.{UnaryOp}
use Rattle.stk_tree.specs.declared.expression.BinaryOp.{BinaryOp}
use Rattle.stk_tree.specs.declared.expression.AssignOp.{AssignOp}
use Rattle.stk_tree.specs.declared.declaration.TypeName.{TypeName}
use Rattle.stk_tree.specs.declared.expression.Expr.{Expr, out-Expr, fold_out-Expr}
use Rattle.stk_tree.specs.declared.expression.ExprForm.{ExprForm-F, fold-roll-ExprForm}
use Rattle.stk_tree.specs.declared.expression.ExprForm.TheVariants as form
use Rattle.stk_tree.specs.Syntax.{BaseFormTree, DesigTree, DimensionTree, InitTree, TailTree, ExprFormTree, BaseTree, DeclrTree, EnumrTree, ItemTree, MemberTree, ParamTree, TypeNameTree, ExprTree}
use Rattle.stk_tree.specs.Syntax as s
use Rattle.stk_tree.specs.View.{base_form_step, designator_step, dimension_step, initialiser_step, tail_step, expression_form_step, base_step, declarator_step, enumerator_step, item_step, member_step, parameter_step, type_name_step, expression_step, expressions, view_expression, view_expression_form, view_type_name}

pub view_node : (e : Expr) → view_expression e ≡ s.expression (out-Expr e).node (view_expression_form (out-Expr e).form)
view_node e = fold_out-Expr BaseFormTree DesigTree DimensionTree InitTree TailTree ExprFormTree BaseTree DeclrTree EnumrTree ItemTree MemberTree ParamTree TypeNameTree ExprTree base_form_step designator_step dimension_step initialiser_step tail_step expression_form_step base_step declarator_step enumerator_step item_step member_step parameter_step type_name_step expression_step e

pub view_name : (at : Span) → view_expression_form (form.Name at) ≡ s.name at
view_name at = ap view_expression_form (sym (form.rolls-Name at)) ∙ fold-roll-ExprForm BaseFormTree DesigTree DimensionTree InitTree TailTree ExprFormTree BaseTree DeclrTree EnumrTree ItemTree MemberTree ParamTree TypeNameTree ExprTree base_form_step designator_step dimension_step initialiser_step tail_step expression_form_step base_step declarator_step enumerator_step item_step member_step parameter_step type_name_step expression_step (ExprForm-F.Name at)

pub at_name : (e : Expr) (at : Span) → (out-Expr e).form ≡ form.Name at → view_expression e ≡ s.expression (out-Expr e).node (s.name at)
at_name e at is = view_node e ∙ ap (s.expression (out-Expr e).node) (ap view_expression_form is ∙ view_name at)

pub view_number : (at : Span) → view_expression_form (form.Number at) ≡ s.number at
view_number at = ap view_expression_form (sym (form.rolls-Number at)) ∙ fold-roll-ExprForm BaseFormTree DesigTree DimensionTree InitTree TailTree ExprFormTree BaseTree DeclrTree EnumrTree ItemTree MemberTree ParamTree TypeNameTree ExprTree base_form_step designator_step dimension_step initialiser_step tail_step expression_form_step base_step declarator_step enumerator_step item_step member_step parameter_step type_name_step expression_step (ExprForm-F.Number at)

pub at_number : (e : Expr) (at : Span) → (out-Expr e).form ≡ form.Number at → view_expression e ≡ s.expression (out-Expr e).node (s.number at)
at_number e at is = view_node e ∙ ap (s.expression (out-Expr e).node) (ap view_expression_form is ∙ view_number at)

pub view_character : (at : Span) → view_expression_form (form.Character at) ≡ s.character at
view_character at = ap view_expression_form (sym (form.rolls-Character at)) ∙ fold-roll-ExprForm BaseFormTree DesigTree DimensionTree InitTree TailTree ExprFormTree BaseTree DeclrTree EnumrTree ItemTree MemberTree ParamTree TypeNameTree ExprTree base_form_step designator_step dimension_step initialiser_step tail_step expression_form_step base_step declarator_step enumerator_step item_step member_step parameter_step type_name_step expression_step (ExprForm-F.Character at)

pub at_character : (e : Expr) (at : Span) → (out-Expr e).form ≡ form.Character at → view_expression e ≡ s.expression (out-Expr e).node (s.character at)
at_character e at is = view_node e ∙ ap (s.expression (out-Expr e).node) (ap view_expression_form is ∙ view_character at)

pub view_text : (parts : List Span) → view_expression_form (form.Text parts) ≡ s.text parts
view_text parts = ap view_expression_form (sym (form.rolls-Text parts)) ∙ fold-roll-ExprForm BaseFormTree DesigTree DimensionTree InitTree TailTree ExprFormTree BaseTree DeclrTree EnumrTree ItemTree MemberTree ParamTree TypeNameTree ExprTree base_form_step designator_step dimension_step initialiser_step tail_step expression_form_step base_step declarator_step enumerator_step item_step member_step parameter_step type_name_step expression_step (ExprForm-F.Text parts)

pub at_text : (e : Expr) (parts : List Span) → (out-Expr e).form ≡ form.Text parts → view_expression e ≡ s.expression (out-Expr e).node (s.text parts)
at_text e parts is = view_node e ∙ ap (s.expression (out-Expr e).node) (ap view_expression_form is ∙ view_text parts)

pub view_paren : (x : Expr) → view_expression_form (form.Paren x) ≡ s.paren (view_expression x)
view_paren x = ap view_expression_form (sym (form.rolls-Paren x)) ∙ fold-roll-ExprForm BaseFormTree DesigTree DimensionTree InitTree TailTree ExprFormTree BaseTree DeclrTree EnumrTree ItemTree MemberTree ParamTree TypeNameTree ExprTree base_form_step designator_step dimension_step initialiser_step tail_step expression_form_step base_step declarator_step enumerator_step item_step member_step parameter_step type_name_step expression_step (ExprForm-F.Paren x)

pub at_paren : (e : Expr) (x : Expr) → (out-Expr e).form ≡ form.Paren x → view_expression e ≡ s.expression (out-Expr e).node (s.paren (view_expression x))
at_paren e x is = view_node e ∙ ap (s.expression (out-Expr e).node) (ap view_expression_form is ∙ view_paren x)

pub view_index : (a : Expr) (b : Expr) → view_expression_form (form.Index a b) ≡ s.index (view_expression a) (view_expression b)
view_index a b = ap view_expression_form (sym (form.rolls-Index a b)) ∙ fold-roll-ExprForm BaseFormTree DesigTree DimensionTree InitTree TailTree ExprFormTree BaseTree DeclrTree EnumrTree ItemTree MemberTree ParamTree TypeNameTree ExprTree base_form_step designator_step dimension_step initialiser_step tail_step expression_form_step base_step declarator_step enumerator_step item_step member_step parameter_step type_name_step expression_step (ExprForm-F.Index a b)

pub at_index : (e : Expr) (a : Expr) (b : Expr) → (out-Expr e).form ≡ form.Index a b → view_expression e ≡ s.expression (out-Expr e).node (s.index (view_expression a) (view_expression b))
at_index e a b is = view_node e ∙ ap (s.expression (out-Expr e).node) (ap view_expression_form is ∙ view_index a b)

pub view_call : (f : Expr) (args : List Expr) → view_expression_form (form.Call f args) ≡ s.call (view_expression f) (expressions (map view_expression args))
view_call f args = ap view_expression_form (sym (form.rolls-Call f args)) ∙ fold-roll-ExprForm BaseFormTree DesigTree DimensionTree InitTree TailTree ExprFormTree BaseTree DeclrTree EnumrTree ItemTree MemberTree ParamTree TypeNameTree ExprTree base_form_step designator_step dimension_step initialiser_step tail_step expression_form_step base_step declarator_step enumerator_step item_step member_step parameter_step type_name_step expression_step (ExprForm-F.Call f args)

pub at_call : (e : Expr) (f : Expr) (args : List Expr) → (out-Expr e).form ≡ form.Call f args → view_expression e ≡ s.expression (out-Expr e).node (s.call (view_expression f) (expressions (map view_expression args)))
at_call e f args is = view_node e ∙ ap (s.expression (out-Expr e).node) (ap view_expression_form is ∙ view_call f args)

pub view_dot : (x : Expr) (at : Span) → view_expression_form (form.Dot x at) ≡ s.dot (view_expression x) at
view_dot x at = ap view_expression_form (sym (form.rolls-Dot x at)) ∙ fold-roll-ExprForm BaseFormTree DesigTree DimensionTree InitTree TailTree ExprFormTree BaseTree DeclrTree EnumrTree ItemTree MemberTree ParamTree TypeNameTree ExprTree base_form_step designator_step dimension_step initialiser_step tail_step expression_form_step base_step declarator_step enumerator_step item_step member_step parameter_step type_name_step expression_step (ExprForm-F.ExprForm::Dot x at)

pub at_dot : (e : Expr) (x : Expr) (at : Span) → (out-Expr e).form ≡ form.Dot x at → view_expression e ≡ s.expression (out-Expr e).node (s.dot (view_expression x) at)
at_dot e x at is = view_node e ∙ ap (s.expression (out-Expr e).node) (ap view_expression_form is ∙ view_dot x at)

pub view_arrow : (x : Expr) (at : Span) → view_expression_form (form.Arrow x at) ≡ s.arrow (view_expression x) at
view_arrow x at = ap view_expression_form (sym (form.rolls-Arrow x at)) ∙ fold-roll-ExprForm BaseFormTree DesigTree DimensionTree InitTree TailTree ExprFormTree BaseTree DeclrTree EnumrTree ItemTree MemberTree ParamTree TypeNameTree ExprTree base_form_step designator_step dimension_step initialiser_step tail_step expression_form_step base_step declarator_step enumerator_step item_step member_step parameter_step type_name_step expression_step (ExprForm-F.Arrow x at)

pub at_arrow : (e : Expr) (x : Expr) (at : Span) → (out-Expr e).form ≡ form.Arrow x at → view_expression e ≡ s.expression (out-Expr e).node (s.arrow (view_expression x) at)
at_arrow e x at is = view_node e ∙ ap (s.expression (out-Expr e).node) (ap view_expression_form is ∙ view_arrow x at)

pub view_step : (op : StepOp) (x : Expr) → view_expression_form (form.Step op x) ≡ s.step op (view_expression x)
view_step op x = ap view_expression_form (sym (form.rolls-Step op x)) ∙ fold-roll-ExprForm BaseFormTree DesigTree DimensionTree InitTree TailTree ExprFormTree BaseTree DeclrTree EnumrTree ItemTree MemberTree ParamTree TypeNameTree ExprTree base_form_step designator_step dimension_step initialiser_step tail_step expression_form_step base_step declarator_step enumerator_step item_step member_step parameter_step type_name_step expression_step (ExprForm-F.Step op x)

pub at_step : (e : Expr) (op : StepOp) (x : Expr) → (out-Expr e).form ≡ form.Step op x → view_expression e ≡ s.expression (out-Expr e).node (s.step op (view_expression x))
at_step e op x is = view_node e ∙ ap (s.expression (out-Expr e).node) (ap view_expression_form is ∙ view_step op x)

pub view_unary : (op : UnaryOp) (x : Expr) → view_expression_form (form.Unary op x) ≡ s.unary op (view_expression x)
view_unary op x = ap view_expression_form (sym (form.rolls-Unary op x)) ∙ fold-roll-ExprForm BaseFormTree DesigTree DimensionTree InitTree TailTree ExprFormTree BaseTree DeclrTree EnumrTree ItemTree MemberTree ParamTree TypeNameTree ExprTree base_form_step designator_step dimension_step initialiser_step tail_step expression_form_step base_step declarator_step enumerator_step item_step member_step parameter_step type_name_step expression_step (ExprForm-F.Unary op x)

pub at_unary : (e : Expr) (op : UnaryOp) (x : Expr) → (out-Expr e).form ≡ form.Unary op x → view_expression e ≡ s.expression (out-Expr e).node (s.unary op (view_expression x))
at_unary e op x is = view_node e ∙ ap (s.expression (out-Expr e).node) (ap view_expression_form is ∙ view_unary op x)

pub view_size_expression : (x : Expr) → view_expression_form (form.SizeExpr x) ≡ s.size_expression (view_expression x)
view_size_expression x = ap view_expression_form (sym (form.rolls-SizeExpr x)) ∙ fold-roll-ExprForm BaseFormTree DesigTree DimensionTree InitTree TailTree ExprFormTree BaseTree DeclrTree EnumrTree ItemTree MemberTree ParamTree TypeNameTree ExprTree base_form_step designator_step dimension_step initialiser_step tail_step expression_form_step base_step declarator_step enumerator_step item_step member_step parameter_step type_name_step expression_step (ExprForm-F.SizeExpr x)

pub at_size_expression : (e : Expr) (x : Expr) → (out-Expr e).form ≡ form.SizeExpr x → view_expression e ≡ s.expression (out-Expr e).node (s.size_expression (view_expression x))
at_size_expression e x is = view_node e ∙ ap (s.expression (out-Expr e).node) (ap view_expression_form is ∙ view_size_expression x)

pub view_size_name : (t : TypeName) → view_expression_form (form.SizeName t) ≡ s.size_name (view_type_name t)
view_size_name t = ap view_expression_form (sym (form.rolls-SizeName t)) ∙ fold-roll-ExprForm BaseFormTree DesigTree DimensionTree InitTree TailTree ExprFormTree BaseTree DeclrTree EnumrTree ItemTree MemberTree ParamTree TypeNameTree ExprTree base_form_step designator_step dimension_step initialiser_step tail_step expression_form_step base_step declarator_step enumerator_step item_step member_step parameter_step type_name_step expression_step (ExprForm-F.SizeName t)

pub at_size_name : (e : Expr) (t : TypeName) → (out-Expr e).form ≡ form.SizeName t → view_expression e ≡ s.expression (out-Expr e).node (s.size_name (view_type_name t))
at_size_name e t is = view_node e ∙ ap (s.expression (out-Expr e).node) (ap view_expression_form is ∙ view_size_name t)

pub view_cast : (t : TypeName) (x : Expr) → view_expression_form (form.Cast t x) ≡ s.cast (view_type_name t) (view_expression x)
view_cast t x = ap view_expression_form (sym (form.rolls-Cast t x)) ∙ fold-roll-ExprForm BaseFormTree DesigTree DimensionTree InitTree TailTree ExprFormTree BaseTree DeclrTree EnumrTree ItemTree MemberTree ParamTree TypeNameTree ExprTree base_form_step designator_step dimension_step initialiser_step tail_step expression_form_step base_step declarator_step enumerator_step item_step member_step parameter_step type_name_step expression_step (ExprForm-F.Cast t x)

pub at_cast : (e : Expr) (t : TypeName) (x : Expr) → (out-Expr e).form ≡ form.Cast t x → view_expression e ≡ s.expression (out-Expr e).node (s.cast (view_type_name t) (view_expression x))
at_cast e t x is = view_node e ∙ ap (s.expression (out-Expr e).node) (ap view_expression_form is ∙ view_cast t x)

pub view_binary : (op : BinaryOp) (a : Expr) (b : Expr) → view_expression_form (form.Binary op a b) ≡ s.binary op (view_expression a) (view_expression b)
view_binary op a b = ap view_expression_form (sym (form.rolls-Binary op a b)) ∙ fold-roll-ExprForm BaseFormTree DesigTree DimensionTree InitTree TailTree ExprFormTree BaseTree DeclrTree EnumrTree ItemTree MemberTree ParamTree TypeNameTree ExprTree base_form_step designator_step dimension_step initialiser_step tail_step expression_form_step base_step declarator_step enumerator_step item_step member_step parameter_step type_name_step expression_step (ExprForm-F.Binary op a b)

pub at_binary : (e : Expr) (op : BinaryOp) (a : Expr) (b : Expr) → (out-Expr e).form ≡ form.Binary op a b → view_expression e ≡ s.expression (out-Expr e).node (s.binary op (view_expression a) (view_expression b))
at_binary e op a b is = view_node e ∙ ap (s.expression (out-Expr e).node) (ap view_expression_form is ∙ view_binary op a b)

pub view_choice : (a : Expr) (b : Expr) (c : Expr) → view_expression_form (form.Choice a b c) ≡ s.choice (view_expression a) (view_expression b) (view_expression c)
view_choice a b c = ap view_expression_form (sym (form.rolls-Choice a b c)) ∙ fold-roll-ExprForm BaseFormTree DesigTree DimensionTree InitTree TailTree ExprFormTree BaseTree DeclrTree EnumrTree ItemTree MemberTree ParamTree TypeNameTree ExprTree base_form_step designator_step dimension_step initialiser_step tail_step expression_form_step base_step declarator_step enumerator_step item_step member_step parameter_step type_name_step expression_step (ExprForm-F.Choice a b c)

pub at_choice : (e : Expr) (a : Expr) (b : Expr) (c : Expr) → (out-Expr e).form ≡ form.Choice a b c → view_expression e ≡ s.expression (out-Expr e).node (s.choice (view_expression a) (view_expression b) (view_expression c))
at_choice e a b c is = view_node e ∙ ap (s.expression (out-Expr e).node) (ap view_expression_form is ∙ view_choice a b c)

pub view_assign : (op : AssignOp) (a : Expr) (b : Expr) → view_expression_form (form.Assign op a b) ≡ s.assign op (view_expression a) (view_expression b)
view_assign op a b = ap view_expression_form (sym (form.rolls-Assign op a b)) ∙ fold-roll-ExprForm BaseFormTree DesigTree DimensionTree InitTree TailTree ExprFormTree BaseTree DeclrTree EnumrTree ItemTree MemberTree ParamTree TypeNameTree ExprTree base_form_step designator_step dimension_step initialiser_step tail_step expression_form_step base_step declarator_step enumerator_step item_step member_step parameter_step type_name_step expression_step (ExprForm-F.Assign op a b)

pub at_assign : (e : Expr) (op : AssignOp) (a : Expr) (b : Expr) → (out-Expr e).form ≡ form.Assign op a b → view_expression e ≡ s.expression (out-Expr e).node (s.assign op (view_expression a) (view_expression b))
at_assign e op a b is = view_node e ∙ ap (s.expression (out-Expr e).node) (ap view_expression_form is ∙ view_assign op a b)

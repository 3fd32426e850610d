-- Expressions of all forms but parentheses and binary operators are sides of a comparison by their value alone.
use Rattle.std.proofs.Common.{◌≡◌, ◌∙◌, ◌⊎◌, inl, inr, ℕ, List, Option, Some, None, ℤ, refl, sym, ap, subst}
use Rattle.stk_base.specs.declared.span.Span.{Span}
use Rattle.stk_tree.specs.declared.expression.StepOp.{StepOp}
use Rattle.stk_tree.specs.declared.expression.UnaryOp.{UnaryOp}
use Rattle.stk_tree.specs.declared.expression.UnaryOp.TheVariants as unary
use Rattle.stk_tree.specs.declared.expression.AssignOp.{AssignOp}
use Rattle.stk_tree.specs.declared.declaration.TypeName.{TypeName}
use Rattle.stk_tree.specs.declared.expression.Expr.{Expr, out-Expr}
use Rattle.stk_tree.specs.declared.expression.ExprForm.{ExprForm}
use Rattle.stk_tree.specs.declared.expression.ExprForm.TheVariants as form
use Rattle.stk_tree.specs.Syntax.{ExprTree, ExprFormTree}
use Rattle.stk_tree.specs.Syntax as s
use Rattle.stk_tree.specs.View.{view_expression, view_expression_form}
use Rattle.stk_meaning.specs.Places.{Setting, object_named}
use Rattle.stk_meaning.specs.Worlds.{World}
use Rattle.stk_meaning.specs.Expressions.{Meaning, alone, meaning, form_meaning, name_meaning, unary_meaning}
use Rattle.stk_eval_expr.proofs.Views.{view_node, view_name, view_number, view_character, view_text, view_index, view_call, view_dot, view_arrow, view_step, view_unary, view_size_expression, view_size_name, view_cast, view_choice, view_assign}

-- one of these forms
abbrev pub IsAlone : ExprForm → Type 0
IsAlone f = ((at : Span) × (f ≡ form.Name at)) ⊎ (((at : Span) × (f ≡ form.Number at)) ⊎ (((at : Span) × (f ≡ form.Character at)) ⊎ (((parts : List Span) × (f ≡ form.Text parts)) ⊎ (((a : Expr) × (b : Expr) × (f ≡ form.Index a b)) ⊎ (((callee : Expr) × (args : List Expr) × (f ≡ form.Call callee args)) ⊎ (((x : Expr) × (at : Span) × (f ≡ form.Dot x at)) ⊎ (((x : Expr) × (at : Span) × (f ≡ form.Arrow x at)) ⊎ (((op : StepOp) × (x : Expr) × (f ≡ form.Step op x)) ⊎ (((op : UnaryOp) × (x : Expr) × (f ≡ form.Unary op x)) ⊎ (((x : Expr) × (f ≡ form.SizeExpr x)) ⊎ (((t : TypeName) × (f ≡ form.SizeName t)) ⊎ (((t : TypeName) × (x : Expr) × (f ≡ form.Cast t x)) ⊎ (((a : Expr) × (b : Expr) × (c : Expr) × (f ≡ form.Choice a b c)) ⊎ ((op : AssignOp) × (a : Expr) × (b : Expr) × (f ≡ form.Assign op a b)))))))))))))))

-- by its value alone
abbrev AsValue : {S : Type 0} → Meaning S → Type 0
AsValue m = m.sides ≡ alone m.value

name_alone : {S : Type 0} (g : Setting) (w : World S) (k : ℕ) (f : ExprFormTree) (object : ℕ) (o : Option ℤ) → AsValue (name_meaning g w k f object o)
name_alone g w k f object None = refl
name_alone g w k f object (Some z) = refl

unary_alone : {S : Type 0} (g : Setting) (w : World S) (k : ℕ) (op : UnaryOp) (e : ExprTree) (m : Meaning S) → AsValue (unary_meaning g w k op e m)
unary_alone g w k unary.Address e m = refl
unary_alone g w k unary.Deref e m = refl
unary_alone g w k unary.Plus e m = refl
unary_alone g w k unary.Minus e m = refl
unary_alone g w k unary.Flip e m = refl
unary_alone g w k unary.Not e m = refl

form_alone : {S : Type 0} (g : Setting) (w : World S) (k : ℕ) (f : ExprForm) → IsAlone f → AsValue (form_meaning g w k (view_expression_form f))
form_alone g w k f (inl (at, is)) = subst (λ (t : ExprFormTree). AsValue (form_meaning g w k t)) (sym (ap view_expression_form is ∙ view_name at)) (name_alone g w k (s.name at) (object_named g k at) (g.typing.number_at k))
form_alone g w k f (inr (inl (at, is))) = subst (λ (t : ExprFormTree). AsValue (form_meaning g w k t)) (sym (ap view_expression_form is ∙ view_number at)) refl
form_alone g w k f (inr (inr (inl (at, is)))) = subst (λ (t : ExprFormTree). AsValue (form_meaning g w k t)) (sym (ap view_expression_form is ∙ view_character at)) refl
form_alone g w k f (inr (inr (inr (inl (parts, is))))) = subst (λ (t : ExprFormTree). AsValue (form_meaning g w k t)) (sym (ap view_expression_form is ∙ view_text parts)) refl
form_alone g w k f (inr (inr (inr (inr (inl (a, b, is)))))) = subst (λ (t : ExprFormTree). AsValue (form_meaning g w k t)) (sym (ap view_expression_form is ∙ view_index a b)) refl
form_alone g w k f (inr (inr (inr (inr (inr (inl (callee, args, is))))))) = subst (λ (t : ExprFormTree). AsValue (form_meaning g w k t)) (sym (ap view_expression_form is ∙ view_call callee args)) refl
form_alone g w k f (inr (inr (inr (inr (inr (inr (inl (x, at, is)))))))) = subst (λ (t : ExprFormTree). AsValue (form_meaning g w k t)) (sym (ap view_expression_form is ∙ view_dot x at)) refl
form_alone g w k f (inr (inr (inr (inr (inr (inr (inr (inl (x, at, is))))))))) = subst (λ (t : ExprFormTree). AsValue (form_meaning g w k t)) (sym (ap view_expression_form is ∙ view_arrow x at)) refl
form_alone g w k f (inr (inr (inr (inr (inr (inr (inr (inr (inl (op, x, is)))))))))) = subst (λ (t : ExprFormTree). AsValue (form_meaning g w k t)) (sym (ap view_expression_form is ∙ view_step op x)) refl
form_alone g w k f (inr (inr (inr (inr (inr (inr (inr (inr (inr (inl (op, x, is))))))))))) = subst (λ (t : ExprFormTree). AsValue (form_meaning g w k t)) (sym (ap view_expression_form is ∙ view_unary op x)) (unary_alone g w k op (view_expression x) (meaning g w (view_expression x)))
form_alone g w k f (inr (inr (inr (inr (inr (inr (inr (inr (inr (inr (inl (x, is)))))))))))) = subst (λ (t : ExprFormTree). AsValue (form_meaning g w k t)) (sym (ap view_expression_form is ∙ view_size_expression x)) refl
form_alone g w k f (inr (inr (inr (inr (inr (inr (inr (inr (inr (inr (inr (inl (t, is))))))))))))) = subst (λ (t : ExprFormTree). AsValue (form_meaning g w k t)) (sym (ap view_expression_form is ∙ view_size_name t)) refl
form_alone g w k f (inr (inr (inr (inr (inr (inr (inr (inr (inr (inr (inr (inr (inl (t, x, is)))))))))))))) = subst (λ (t : ExprFormTree). AsValue (form_meaning g w k t)) (sym (ap view_expression_form is ∙ view_cast t x)) refl
form_alone g w k f (inr (inr (inr (inr (inr (inr (inr (inr (inr (inr (inr (inr (inr (inl (a, b, c, is))))))))))))))) = subst (λ (t : ExprFormTree). AsValue (form_meaning g w k t)) (sym (ap view_expression_form is ∙ view_choice a b c)) refl
form_alone g w k f (inr (inr (inr (inr (inr (inr (inr (inr (inr (inr (inr (inr (inr (inr (op, a, b, is))))))))))))))) = subst (λ (t : ExprFormTree). AsValue (form_meaning g w k t)) (sym (ap view_expression_form is ∙ view_assign op a b)) refl

pub sides_alone : {S : Type 0} (g : Setting) (w : World S) (e : Expr) → IsAlone (out-Expr e).form → (meaning g w (view_expression e)).sides ≡ alone (meaning g w (view_expression e)).value
sides_alone g w e h = subst (λ (t : ExprTree). AsValue (meaning g w t)) (sym (view_node e)) (form_alone g w (out-Expr e).node.number (out-Expr e).form h)

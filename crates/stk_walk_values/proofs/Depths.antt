-- Parts of an expression are less deep than the whole.
use Rattle.std.proofs.Common.{◌≡◌, ℕ, zero, suc, ◌<◌, ◌≤◌, List, [], ◌∷◌, length, get_or, sym, ap, ◌∙◌, arith}
use denote.Param.Weighed.{most}
use Rattle.stk_base.specs.declared.span.Span.{Span}
use Rattle.stk_tree.specs.declared.declaration.TypeName.{TypeName}
use Rattle.stk_tree.specs.declared.expression.StepOp.{StepOp}
use Rattle.stk_tree.specs.declared.expression.UnaryOp.{UnaryOp}
use Rattle.stk_tree.specs.declared.expression.BinaryOp.{BinaryOp}
use Rattle.stk_tree.specs.declared.expression.AssignOp.{AssignOp}
use Rattle.stk_tree.specs.declared.expression.Expr.{Expr, out-Expr, size_is-Expr}
use Rattle.stk_tree.specs.declared.expression.ExprForm.{ExprForm, ExprForm-F, roll-ExprForm, out-roll-ExprForm, size_is-ExprForm}
use Rattle.stk_tree.specs.declared.expression.ExprForm.TheVariants as form
use Rattle.stk_tree.proofs.expression.ExprForm.TheLaws.{the_size as form_size}
use Rattle.stk_tree.proofs.expression.Expr.TheLaws.{the_size}

of_form : (w : Expr) (f : ExprForm) → (out-Expr w).form ≡ f → form_size f < the_size w
of_form w f is =
    let same : form_size (out-Expr w).form ≡ form_size f = ap form_size is in
    omega (arith, size_is-Expr w)

pub element_below : {A : Type 0} (w : A → ℕ) (xs : List A) (i : ℕ) (d : A) → i < length xs → d ≡ get_or xs i d → w d ≤ most w xs
element_below w [] i d h e = absurd (omega arith)
element_below w (x ∷ xs) zero d h e = let same : w d ≡ w x = ap w e in omega arith
element_below w (x ∷ xs) (suc i) d h e =
    let below : i < length xs = omega arith in
    let rest : w d ≤ most w xs = element_below w xs i d below e in
    omega arith

pub in_paren : (w : Expr) (x : Expr) → (out-Expr w).form ≡ form.Paren x → the_size x < the_size w
in_paren w x is =
    let whole = of_form w (roll-ExprForm (ExprForm-F.Paren x)) (is ∙ sym (form.rolls-Paren x)) in
    let form = rw (out-roll-ExprForm (ExprForm-F.Paren x)) at (size_is-ExprForm (roll-ExprForm (ExprForm-F.Paren x))) in
    omega (arith, whole, form)

pub in_index : (w : Expr) (a : Expr) (b : Expr) → (out-Expr w).form ≡ form.Index a b → (the_size a < the_size w) × (the_size b < the_size w)
in_index w a b is =
    let whole = of_form w (roll-ExprForm (ExprForm-F.Index a b)) (is ∙ sym (form.rolls-Index a b)) in
    let form = rw (out-roll-ExprForm (ExprForm-F.Index a b)) at (size_is-ExprForm (roll-ExprForm (ExprForm-F.Index a b))) in
    (omega (arith, whole, form), omega (arith, whole, form))

pub in_call : (w : Expr) (f : Expr) (xs : List Expr) → (out-Expr w).form ≡ form.Call f xs → most the_size xs < the_size w
in_call w f xs is =
    let whole = of_form w (roll-ExprForm (ExprForm-F.Call f xs)) (is ∙ sym (form.rolls-Call f xs)) in
    let form = rw (out-roll-ExprForm (ExprForm-F.Call f xs)) at (size_is-ExprForm (roll-ExprForm (ExprForm-F.Call f xs))) in
    omega (arith, whole, form)

pub in_dot : (w : Expr) (x : Expr) (n : Span) → (out-Expr w).form ≡ form.Dot x n → the_size x < the_size w
in_dot w x n is =
    let whole = of_form w (roll-ExprForm (ExprForm-F.ExprForm::Dot x n)) (is ∙ sym (form.rolls-Dot x n)) in
    let form = rw (out-roll-ExprForm (ExprForm-F.ExprForm::Dot x n)) at (size_is-ExprForm (roll-ExprForm (ExprForm-F.ExprForm::Dot x n))) in
    omega (arith, whole, form)

pub in_arrow : (w : Expr) (x : Expr) (n : Span) → (out-Expr w).form ≡ form.Arrow x n → the_size x < the_size w
in_arrow w x n is =
    let whole = of_form w (roll-ExprForm (ExprForm-F.Arrow x n)) (is ∙ sym (form.rolls-Arrow x n)) in
    let form = rw (out-roll-ExprForm (ExprForm-F.Arrow x n)) at (size_is-ExprForm (roll-ExprForm (ExprForm-F.Arrow x n))) in
    omega (arith, whole, form)

pub in_step : (w : Expr) (op : StepOp) (x : Expr) → (out-Expr w).form ≡ form.Step op x → the_size x < the_size w
in_step w op x is =
    let whole = of_form w (roll-ExprForm (ExprForm-F.Step op x)) (is ∙ sym (form.rolls-Step op x)) in
    let form = rw (out-roll-ExprForm (ExprForm-F.Step op x)) at (size_is-ExprForm (roll-ExprForm (ExprForm-F.Step op x))) in
    omega (arith, whole, form)

pub in_unary : (w : Expr) (op : UnaryOp) (x : Expr) → (out-Expr w).form ≡ form.Unary op x → the_size x < the_size w
in_unary w op x is =
    let whole = of_form w (roll-ExprForm (ExprForm-F.Unary op x)) (is ∙ sym (form.rolls-Unary op x)) in
    let form = rw (out-roll-ExprForm (ExprForm-F.Unary op x)) at (size_is-ExprForm (roll-ExprForm (ExprForm-F.Unary op x))) in
    omega (arith, whole, form)

pub in_cast : (w : Expr) (t : TypeName) (x : Expr) → (out-Expr w).form ≡ form.Cast t x → the_size x < the_size w
in_cast w t x is =
    let whole = of_form w (roll-ExprForm (ExprForm-F.Cast t x)) (is ∙ sym (form.rolls-Cast t x)) in
    let form = rw (out-roll-ExprForm (ExprForm-F.Cast t x)) at (size_is-ExprForm (roll-ExprForm (ExprForm-F.Cast t x))) in
    omega (arith, whole, form)

pub in_binary : (w : Expr) (op : BinaryOp) (a : Expr) (b : Expr) → (out-Expr w).form ≡ form.Binary op a b → (the_size a < the_size w) × (the_size b < the_size w)
in_binary w op a b is =
    let whole = of_form w (roll-ExprForm (ExprForm-F.Binary op a b)) (is ∙ sym (form.rolls-Binary op a b)) in
    let form = rw (out-roll-ExprForm (ExprForm-F.Binary op a b)) at (size_is-ExprForm (roll-ExprForm (ExprForm-F.Binary op a b))) in
    (omega (arith, whole, form), omega (arith, whole, form))

pub in_choice : (w : Expr) (a : Expr) (b : Expr) (c : Expr) → (out-Expr w).form ≡ form.Choice a b c → (the_size a < the_size w) × (the_size b < the_size w) × (the_size c < the_size w)
in_choice w a b c is =
    let whole = of_form w (roll-ExprForm (ExprForm-F.Choice a b c)) (is ∙ sym (form.rolls-Choice a b c)) in
    let form = rw (out-roll-ExprForm (ExprForm-F.Choice a b c)) at (size_is-ExprForm (roll-ExprForm (ExprForm-F.Choice a b c))) in
    (omega (arith, whole, form), omega (arith, whole, form), omega (arith, whole, form))

pub in_assign : (w : Expr) (op : AssignOp) (a : Expr) (b : Expr) → (out-Expr w).form ≡ form.Assign op a b → (the_size a < the_size w) × (the_size b < the_size w)
in_assign w op a b is =
    let whole = of_form w (roll-ExprForm (ExprForm-F.Assign op a b)) (is ∙ sym (form.rolls-Assign op a b)) in
    let form = rw (out-roll-ExprForm (ExprForm-F.Assign op a b)) at (size_is-ExprForm (roll-ExprForm (ExprForm-F.Assign op a b))) in
    (omega (arith, whole, form), omega (arith, whole, form))

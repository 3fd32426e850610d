-- Parts of a statement are less deep than the whole.
use Rattle.std.proofs.Common.{◌≡◌, ℕ, zero, suc, ◌<◌, ◌≤◌, List, [], ◌∷◌, Option, Some, None, length, get_or, sym, ap, ◌∙◌, arith}
use denote.Param.Weighed.{most}
use Rattle.stk_tree.specs.declared.expression.Expr.{Expr}
use Rattle.stk_tree.specs.declared.statement.Start.{Start}
use Rattle.stk_tree.specs.declared.statement.Part.{Part, Part-F, roll-Part, out-roll-Part, size_is-Part}
use Rattle.stk_tree.specs.declared.statement.Part.TheShapes.{weighed-StmtForm-If-2}
use Rattle.stk_tree.specs.declared.statement.Part.TheVariants as part
use Rattle.stk_tree.specs.declared.statement.Section.{Section, out-Section, size_is-Section}
use Rattle.stk_tree.specs.declared.statement.Stmt.{Stmt, out-Stmt, size_is-Stmt}
use Rattle.stk_tree.specs.declared.statement.StmtForm.{StmtForm, StmtForm-F, roll-StmtForm, out-roll-StmtForm, size_is-StmtForm}
use Rattle.stk_tree.specs.declared.statement.StmtForm.TheVariants as form
use Rattle.stk_tree.proofs.statement.Part.TheLaws.{the_size as part_size}
use Rattle.stk_tree.proofs.statement.Section.TheLaws.{the_size as section_size}
use Rattle.stk_tree.proofs.statement.StmtForm.TheLaws.{the_size as form_size}
use Rattle.stk_tree.proofs.statement.Stmt.TheLaws.{the_size}

pub element_below : {A : Type 0} (w : A → ℕ) (xs : List A) (i : ℕ) (d : A) → i < length xs → d ≡ get_or xs i d → w d ≤ most w xs
element_below w [] i d h e = absurd (omega arith)
element_below w (x ∷ xs) zero d h e = let same : w d ≡ w x = ap w e in omega arith
element_below w (x ∷ xs) (suc i) d h e =
    let below : i < length xs = omega arith in
    let rest : w d ≤ most w xs = element_below w xs i d below e in
    omega arith

pub in_section : (x : Section) → most the_size (out-Section x).body < section_size x
in_section x = omega (arith, size_is-Section x)

pub in_part : (p : Part) (x : Stmt) → p ≡ part.Run x → the_size x < part_size p
in_part p x is =
    let same : part_size p ≡ part_size (roll-Part (Part-F.Run x)) = ap part_size (is ∙ sym (part.rolls-Run x)) in
    let row = rw (out-roll-Part (Part-F.Run x)) at (size_is-Part (roll-Part (Part-F.Run x))) in
    omega (arith, row)

of_form : (w : Stmt) (f : StmtForm) → (out-Stmt w).form ≡ f → form_size f < the_size w
of_form w f is =
    let same : form_size (out-Stmt w).form ≡ form_size f = ap form_size is in
    omega (arith, size_is-Stmt w)

pub in_block : (w : Stmt) (ps : List Part) → (out-Stmt w).form ≡ form.Block ps → most part_size ps < the_size w
in_block w ps is =
    let whole = of_form w (roll-StmtForm (StmtForm-F.Block ps)) (is ∙ sym (form.rolls-Block ps)) in
    let form = rw (out-roll-StmtForm (StmtForm-F.Block ps)) at (size_is-StmtForm (roll-StmtForm (StmtForm-F.Block ps))) in
    omega (arith, form)

pub in_switch : (w : Stmt) (e : Expr) (xs : List Section) → (out-Stmt w).form ≡ form.Switch e xs → most section_size xs < the_size w
in_switch w e xs is =
    let whole = of_form w (roll-StmtForm (StmtForm-F.Switch e xs)) (is ∙ sym (form.rolls-Switch e xs)) in
    let form = rw (out-roll-StmtForm (StmtForm-F.Switch e xs)) at (size_is-StmtForm (roll-StmtForm (StmtForm-F.Switch e xs))) in
    omega (arith, form)

pub in_if : (w : Stmt) (e : Expr) (x : Stmt) (o : Option Stmt) → (out-Stmt w).form ≡ form.If e x o → the_size x < the_size w
in_if w e x None is =
    let whole = of_form w (roll-StmtForm (StmtForm-F.If e x None)) (is ∙ sym (form.rolls-If e x None)) in
    let form = rw (out-roll-StmtForm (StmtForm-F.If e x None)) at (size_is-StmtForm (roll-StmtForm (StmtForm-F.If e x None))) in
    omega (arith, form)
in_if w e x (Some y) is =
    let whole = of_form w (roll-StmtForm (StmtForm-F.If e x (Some y))) (is ∙ sym (form.rolls-If e x (Some y))) in
    let form = rw (out-roll-StmtForm (StmtForm-F.If e x (Some y))) at (size_is-StmtForm (roll-StmtForm (StmtForm-F.If e x (Some y)))) in
    omega (arith, form)

pub in_other : (w : Stmt) (e : Expr) (x : Stmt) (o : Option Stmt) → (out-Stmt w).form ≡ form.If e x o → weighed-StmtForm-If-2.weight Stmt the_size o < the_size w
in_other w e x None is =
    let whole = of_form w (roll-StmtForm (StmtForm-F.If e x None)) (is ∙ sym (form.rolls-If e x None)) in
    let form = rw (out-roll-StmtForm (StmtForm-F.If e x None)) at (size_is-StmtForm (roll-StmtForm (StmtForm-F.If e x None))) in
    omega (arith, form)
in_other w e x (Some y) is =
    let whole = of_form w (roll-StmtForm (StmtForm-F.If e x (Some y))) (is ∙ sym (form.rolls-If e x (Some y))) in
    let form = rw (out-roll-StmtForm (StmtForm-F.If e x (Some y))) at (size_is-StmtForm (roll-StmtForm (StmtForm-F.If e x (Some y)))) in
    omega (arith, form)

pub in_while : (w : Stmt) (e : Expr) (x : Stmt) → (out-Stmt w).form ≡ form.While e x → the_size x < the_size w
in_while w e x is =
    let whole = of_form w (roll-StmtForm (StmtForm-F.While e x)) (is ∙ sym (form.rolls-While e x)) in
    let form = rw (out-roll-StmtForm (StmtForm-F.While e x)) at (size_is-StmtForm (roll-StmtForm (StmtForm-F.While e x))) in
    omega (arith, form)

pub in_do : (w : Stmt) (x : Stmt) (e : Expr) → (out-Stmt w).form ≡ form.Do x e → the_size x < the_size w
in_do w x e is =
    let whole = of_form w (roll-StmtForm (StmtForm-F.Do x e)) (is ∙ sym (form.rolls-Do x e)) in
    let form = rw (out-roll-StmtForm (StmtForm-F.Do x e)) at (size_is-StmtForm (roll-StmtForm (StmtForm-F.Do x e))) in
    omega (arith, form)

pub in_for : (w : Stmt) (first : Start) (test step : Option Expr) (x : Stmt) → (out-Stmt w).form ≡ form.For first test step x → the_size x < the_size w
in_for w first test step x is =
    let whole = of_form w (roll-StmtForm (StmtForm-F.For first test step x)) (is ∙ sym (form.rolls-For first test step x)) in
    let form = rw (out-roll-StmtForm (StmtForm-F.For first test step x)) at (size_is-StmtForm (roll-StmtForm (StmtForm-F.For first test step x))) in
    omega (arith, form)

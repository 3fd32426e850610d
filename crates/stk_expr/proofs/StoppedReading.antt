-- What the call for what holds expressions says of the functional reader.
use Rattle.std.proofs.Common.{◌≡◌, ℕ, ◌≤◌, Bool, List, Result, Ok, Err, Some, IfOk, refl, ap, ◌∙◌}
use Rattle.std.specs.Result.{IsErrOf}
use Rattle.stk_base.specs.declared.span.Span.{Span}
use Rattle.stk_tree.specs.declared.fixed.Lexeme.{Lexeme}
use Rattle.stk_tree.specs.Syntax.{ExprTree}
use Rattle.stk_tree.specs.View.{view_expression}
use Rattle.stk_tree.specs.Unlaid.{unlaid_expression}
use Rattle.stk_grammar.specs.Expressions.{Leads}
use Rattle.stk_grammar.specs.Stopped.{stopped_at}
use Rattle.stk_grammar.proofs.Stopped.{leads_read, none_leads}
use Rattle.stk_expr.specs.Gives.{Gives}
use Rattle.stk_expr.specs.declared.parse.Parse.{Parse}
use Rattle.stk_expr.specs.declared.parse.Parse.TheVariants as parse
use Rattle.stk_expr.specs.declared.reading.Leading.{Leading}

-- it answers what the functional reader gives
pub gives_stopped : (named : Span → Bool) (room least : ℕ) (ts : List Lexeme) (r : Result Leading Parse) → least ≤ 17
    → IfOk r (λ x. Leads named room least ts (view_expression x.tree) x.rest.now) → IfOk r (λ x. unlaid_expression (view_expression x.tree) ≡ view_expression x.tree)
    → (IsErrOf r parse.NoTree → (t : ExprTree) (rest : List Lexeme) → Leads named room least ts t rest → ⊥)
    → Gives (λ x. (view_expression x.tree, x.rest.now)) r (stopped_at named room least ts)
gives_stopped named room least ts (Ok x) wide found unlaid none = leads_read named room least ts (view_expression x.tree) x.rest.now found ∙ ap (λ t. Some (t, x.rest.now)) unlaid
gives_stopped named room least ts (Err parse.NoTree) wide found unlaid none = none_leads named room least ts wide (none refl)
gives_stopped named room least ts (Err parse.NoMemory) wide found unlaid none = tt

-- What the calls for declarations say of the functional reader.
use Rattle.std.proofs.Common.{◌≡◌, ℕ, Bool, List, Result, Ok, Err, Some, IfOk, refl, ap, ◌∙◌}
use Rattle.std.specs.Result.{IsErrOf}
use Rattle.stk_base.specs.declared.span.Span.{Span}
use Rattle.stk_tree.specs.declared.fixed.Lexeme.{Lexeme}
use Rattle.stk_tree.specs.Syntax.{DeclarationTree}
use Rattle.stk_tree.specs.Unlaid.{unlaid_declaration}
use Rattle.stk_grammar.specs.Declarations.{DeclarationLeads, FrontLeads}
use Rattle.stk_grammar.specs.DeclarationReading.{declaration_at, front_at}
use Rattle.stk_grammar.proofs.DeclarationLaws.{declaration_leads_read, front_leads_read, no_declaration_leads, no_front_leads}
use Rattle.stk_expr.specs.Gives.{Gives}
use Rattle.stk_expr.specs.declared.parse.Parse.{Parse}
use Rattle.stk_expr.specs.declared.parse.Parse.TheVariants as parse

-- they answer what it gives
module _ {X : Type 0} (tree : X → DeclarationTree) (behind : X → List Lexeme) (named : Span → Bool) (room : ℕ) (ts : List Lexeme) where
  pub gives_declaration : (file : Bool) (r : Result X Parse) → IfOk r (λ x. DeclarationLeads named file room ts (tree x) (behind x)) → IfOk r (λ x. unlaid_declaration (tree x) ≡ tree x)
      → (IsErrOf r parse.NoTree → (d : DeclarationTree) (rest : List Lexeme) → DeclarationLeads named file room ts d rest → ⊥)
      → Gives (λ x. (tree x, behind x)) r (declaration_at named file room ts)
  gives_declaration file (Ok x) found unlaid none = declaration_leads_read named file room ts (tree x) (behind x) found ∙ ap (λ d. Some (d, behind x)) unlaid
  gives_declaration file (Err parse.NoTree) found unlaid none = no_declaration_leads named file room ts (none refl)
  gives_declaration file (Err parse.NoMemory) found unlaid none = tt

  pub gives_front : (r : Result X Parse) → IfOk r (λ x. FrontLeads named room ts (tree x) (behind x)) → IfOk r (λ x. unlaid_declaration (tree x) ≡ tree x)
      → (IsErrOf r parse.NoTree → (d : DeclarationTree) (rest : List Lexeme) → FrontLeads named room ts d rest → ⊥)
      → Gives (λ x. (tree x, behind x)) r (front_at named room ts)
  gives_front (Ok x) found unlaid none = front_leads_read named room ts (tree x) (behind x) found ∙ ap (λ d. Some (d, behind x)) unlaid
  gives_front (Err parse.NoTree) found unlaid none = no_front_leads named room ts (none refl)
  gives_front (Err parse.NoMemory) found unlaid none = tt

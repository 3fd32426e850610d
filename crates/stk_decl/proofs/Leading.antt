-- What the calls for what holds declarations say of the functional reader.
use Rattle.std.proofs.Common.{◌≡◌, ℕ, ◌≤◌, Bool, List, ◌++◌, length, drop, Result, Ok, Err, Some, IfOk, refl, ap, ◌∙◌, arith}
use Rattle.std.specs.Result.{IsErrOf}
use Rattle.std.proofs.lemmas.List.{length-append, length-drop}
use Rattle.stk_base.specs.declared.span.Span.{Span}
use Rattle.stk_tree.specs.declared.fixed.Lexeme.{Lexeme}
use Rattle.stk_tree.specs.Syntax.{DeclarationTree}
use Rattle.stk_tree.specs.View.{view_declaration}
use Rattle.stk_tree.specs.Unlaid.{unlaid_declaration}
use Rattle.stk_grammar.specs.Declarations.{DeclarationLeads, FrontLeads}
use Rattle.stk_grammar.specs.DeclarationReading.{declaration_at, front_at}
use Rattle.stk_grammar.proofs.DeclarationLaws.{declaration_leads_read, front_leads_read, no_declaration_leads, no_front_leads}
use Rattle.stk_expr.specs.Gives.{Gives}
use Rattle.stk_expr.specs.declared.parse.Parse.{Parse}
use Rattle.stk_expr.specs.declared.parse.Parse.TheVariants as parse
use Rattle.stk_decl.specs.declared.reading.LeadingDeclaration.{LeadingDeclaration}

-- a declaration is answered as the functional reader gives it
pub gives_declaration : (named : Span → Bool) (file : Bool) (room : ℕ) (ts : List Lexeme) (r : Result LeadingDeclaration Parse)
    → IfOk r (λ x. DeclarationLeads named file room ts (view_declaration x.tree) x.rest.now) → IfOk r (λ x. unlaid_declaration (view_declaration x.tree) ≡ view_declaration x.tree)
    → (IsErrOf r parse.NoTree → (d : DeclarationTree) (rest : List Lexeme) → DeclarationLeads named file room ts d rest → ⊥)
    → Gives (λ x. (view_declaration x.tree, x.rest.now)) r (declaration_at named file room ts)
gives_declaration named file room ts (Ok x) found unlaid none = declaration_leads_read named file room ts (view_declaration x.tree) x.rest.now found ∙ ap (λ d. Some (d, x.rest.now)) unlaid
gives_declaration named file room ts (Err parse.NoTree) found unlaid none = no_declaration_leads named file room ts (none refl)
gives_declaration named file room ts (Err parse.NoMemory) found unlaid none = tt

-- so is a front of a function
pub gives_front : (named : Span → Bool) (room : ℕ) (ts : List Lexeme) (r : Result LeadingDeclaration Parse)
    → IfOk r (λ x. FrontLeads named room ts (view_declaration x.tree) x.rest.now) → IfOk r (λ x. unlaid_declaration (view_declaration x.tree) ≡ view_declaration x.tree)
    → (IsErrOf r parse.NoTree → (d : DeclarationTree) (rest : List Lexeme) → FrontLeads named room ts d rest → ⊥)
    → Gives (λ x. (view_declaration x.tree, x.rest.now)) r (front_at named room ts)
gives_front named room ts (Ok x) found unlaid none = front_leads_read named room ts (view_declaration x.tree) x.rest.now found ∙ ap (λ d. Some (d, x.rest.now)) unlaid
gives_front named room ts (Err parse.NoTree) found unlaid none = no_front_leads named room ts (none refl)
gives_front named room ts (Err parse.NoMemory) found unlaid none = tt

-- what stands behind is no longer than what stood there
pub rest_within : (ts tokens rest : List Lexeme) (at : ℕ) → drop at ts ≡ tokens ++ rest → length rest ≤ length ts
rest_within ts tokens rest at e = omega (arith, ap length e, length-append tokens rest, length-drop at ts)

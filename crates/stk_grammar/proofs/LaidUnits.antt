-- A unit that is laid out is still the unit of its tokens.
use Rattle.std.proofs.Common.{◌≡◌, Bool, List, refl, sym, ap, ◌∙◌}
use Rattle.stk_base.specs.declared.span.Span.{Span}
use Rattle.stk_tree.specs.declared.fixed.Lexeme.{Lexeme}
use Rattle.stk_tree.specs.Syntax.{UnitTree}
use Rattle.stk_tree.specs.Syntax as s
use Rattle.stk_tree.specs.Nesting.{unit_nesting}
use Rattle.stk_tree.specs.Layout.{node_at, unit_laid_out}
use Rattle.stk_tree.specs.Placed.{unit_placed}
use Rattle.stk_tree.specs.Tokens.{unit_tokens}
use Rattle.stk_nodes.proofs.LaidNestings.{declaration_nesting-laid, function_nesting-laid}
use Rattle.stk_nodes.proofs.LaidPlaces.{file_placed-laid, function_placed-laid}
use Rattle.stk_nodes.proofs.LaidTokens.{declaration_tokens-laid, function_tokens-laid}
use Rattle.stk_tree.specs.Unlaid.{unlaid_unit}
use Rattle.stk_grammar.specs.Units.{IsUnit}
use Rattle.stk_grammar.proofs.StatementLaidUnlaid.{unlaid_unit-laid}
use Rattle.stk_grammar.proofs.StatementLaidFits.{unit_fits-laid}
use Rattle.stk_grammar.proofs.StatementLaws.{one_unit}

pub unit_tokens-laid : (spans : List Span) (u : UnitTree) → unit_tokens (unit_laid_out spans u) ≡ unit_tokens u
unit_tokens-laid spans (s.empty_unit k) = refl
unit_tokens-laid spans (s.declares k d) = declaration_tokens-laid (node_at spans) d 0 0
unit_tokens-laid spans (s.defines k f) = function_tokens-laid (node_at spans) f 0 0

pub unit_placed-laid : (spans : List Span) (u : UnitTree) → unit_placed (unit_laid_out spans u) ≡ unit_placed u
unit_placed-laid spans (s.empty_unit k) = refl
unit_placed-laid spans (s.declares k d) = file_placed-laid (node_at spans) d 0 0
unit_placed-laid spans (s.defines k f) = function_placed-laid (node_at spans) f 0 0

pub unit_nesting-laid : (spans : List Span) (u : UnitTree) → unit_nesting (unit_laid_out spans u) ≡ unit_nesting u
unit_nesting-laid spans (s.empty_unit k) = refl
unit_nesting-laid spans (s.declares k d) = rw (declaration_nesting-laid (node_at spans) d 0 0) refl
unit_nesting-laid spans (s.defines k f) = rw (function_nesting-laid (node_at spans) f 0 0) refl

pub laid_is_unit : (named : Span → Bool) (ts : List Lexeme) (spans : List Span) (u : UnitTree) → IsUnit named ts u → IsUnit named ts (unit_laid_out spans u)
laid_is_unit named ts spans u h = record {
  tokens = h.tokens ∙ sym (unit_tokens-laid spans u);
  placed = unit_placed-laid spans u ∙ h.placed;
  fits = unit_fits-laid named spans u ∙ h.fits;
  nesting = rw (unit_nesting-laid spans u) h.nesting;
}

-- a tree without records that is laid out is the layout of its tree without records
pub laid_unlaid_unit : (spans : List Span) (u x : UnitTree) → unlaid_unit u ≡ u → x ≡ unit_laid_out spans u → x ≡ unit_laid_out spans (unlaid_unit x)
laid_unlaid_unit spans u x unlaid e = e ∙ ap (unit_laid_out spans) (sym (ap unlaid_unit e ∙ unlaid_unit-laid spans u ∙ unlaid))

-- two units of the same tokens, both laid out, are one
pub one_laid_unit : (named : Span → Bool) (ts : List Lexeme) (spans : List Span) (x y : UnitTree) → IsUnit named ts x → IsUnit named ts y
    → x ≡ unit_laid_out spans (unlaid_unit x) → y ≡ unit_laid_out spans (unlaid_unit y) → x ≡ y
one_laid_unit named ts spans x y h k laid_x laid_y = laid_x ∙ ap (unit_laid_out spans) (one_unit named ts x y h k) ∙ sym laid_y

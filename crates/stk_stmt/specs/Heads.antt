-- A declaration whose `;` is left away.
use Rattle.std.specs.Prelude.{◌≡◌, ℕ, Bool, true, false, List, [], ◌∷◌, ◌++◌}
use Rattle.stk_base.specs.declared.span.Span.{Span}
use Rattle.stk_tree.specs.declared.fixed.Fixed.TheVariants.{Semicolon}
use Rattle.stk_tree.specs.declared.fixed.Lexeme.{Lexeme}
use Rattle.stk_tree.specs.declared.fixed.Lexeme.TheVariants.{Fixed as Token}
use Rattle.stk_tree.specs.Syntax.{UnitTree, declares, defines, empty_unit}
use Rattle.stk_grammar.specs.Units.{IsUnit}

-- tokens with a `;` behind them
abbrev pub ended_lexemes : List Lexeme → List Lexeme
ended_lexemes ts = ts ++ Token Semicolon ∷ []

-- whether a unit is a declaration
abbrev pub is_declaration : UnitTree → Bool
is_declaration (empty_unit n) = false
is_declaration (declares n d) = true
is_declaration (defines n f) = false

-- These tokens are this declaration without its `;`.
pub record IsHead (named : Span → Bool) (ts : List Lexeme) (u : UnitTree) : Type 0 where
  pub is : IsUnit named (ended_lexemes ts) u
  pub declaration : is_declaration u ≡ true

-- where the last token ends; 0 where there is none
abbrev pub last_end : List Span → ℕ
last_end [] = 0
last_end (at ∷ []) = at.to
last_end (at ∷ b ∷ more) = last_end (b ∷ more)

-- the spans of tokens, and the empty one of the `;` at their end
abbrev pub ended_spans : List Span → List Span
ended_spans spans = spans ++ record { from = last_end spans; to = last_end spans } ∷ []

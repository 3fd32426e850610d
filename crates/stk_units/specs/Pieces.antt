-- The units of an input, among the tokens of it that skimming keeps.
use Rattle.std.specs.Prelude.{◌≡◌, ℕ, ◌-◌, ◌≤◌, List, length, take, drop, Option}
use Rattle.std.specs.Option.{option_map}
use Rattle.stk_lex.specs.declared.token.Token.{Token}
use Rattle.stk_lex.specs.declared.skimming.Skimmed.{Skimmed}
use Rattle.stk_lex.specs.declared.cutting.Piece.{Piece}
use Rattle.stk_lex.specs.Cut.{IsCut, AreSpans}
use Rattle.stk_lex.specs.Skimming.{kept_tokens, notes_of, ArePositions}
use Rattle.stk_lex.specs.Units.{units_of}

-- the tokens of a unit, among those of its file
abbrev pub tokens_of_piece : List Token → Piece → List Token
tokens_of_piece tokens p = take (p.to - p.from) (drop p.from tokens)

-- how many tokens of a unit stand before its body, where one was found
abbrev pub body_of_piece : Piece → Option ℕ
body_of_piece p = option_map (λ at. at - p.from) p.body

-- what skimming leaves of the tokens of an input
pub record IsSkimmedFrom (bytes : List ℕ) (skimmed : Skimmed) : Type 0 where
  pub tokens : List Token
  pub cut : IsCut bytes tokens
  pub same_tokens : skimmed.tokens ≡ kept_tokens bytes tokens
  pub same_notes : skimmed.notes ≡ notes_of bytes tokens
  pub few : length skimmed.tokens ≤ length bytes
  pub spans : AreSpans (length bytes) 0 skimmed.tokens
  pub positions : ArePositions 0 skimmed.notes

-- these are the units of an input, among the tokens of it that skimming keeps
pub record AreUnitsOf (bytes : List ℕ) (kept : List Token) (pieces : List Piece) : Type 0 where
  pub tokens : List Token
  pub cut : IsCut bytes tokens
  pub same_tokens : kept ≡ kept_tokens bytes tokens
  pub same_pieces : pieces ≡ units_of bytes kept (notes_of bytes tokens)

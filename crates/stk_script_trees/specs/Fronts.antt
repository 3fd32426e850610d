-- What stands at the front of some tokens.
use Rattle.std.specs.Prelude.{ℕ, zero, List, [], ◌∷◌, Option, Some, None}
use Rattle.stk_scripts.specs.Syntax.{Expr}
use Rattle.stk_scripts.specs.Tokens.{Token, opening, closing, word}
use Rattle.stk_scripts.specs.Reading.{Front, ◌>>=◌, worded, closed}
use Rattle.stk_scripts.specs.Numerals.{numeral}

-- the tokens behind `)`
abbrev pub closing_front : List Token → Option (List Token)
closing_front [] = None
closing_front (opening ∷ ts) = None
closing_front (closing ∷ ts) = Some ts
closing_front (word w ∷ ts) = None

-- a word
abbrev pub word_front : List Token → Front (List ℕ)
word_front [] = None
word_front (opening ∷ ts) = None
word_front (closing ∷ ts) = None
word_front (word w ∷ ts) = Some (w, ts)

-- two numbers and `)`; one number and `)`
abbrev pub bounds_front : List Token → Option (ℕ × ℕ × List Token)
bounds_front ts = do
  high ← worded numeral ts
  low ← worded numeral high.1
  behind ← closed zero low.1
  Some (high.0, low.0, behind.1)

abbrev pub count_front : List Token → Front ℕ
count_front ts = do
  k ← worded numeral ts
  behind ← closed zero k.1
  Some (k.0, behind.1)

-- a term as it is; two terms
abbrev pub same : Expr → Expr
same e = e

abbrev pub paired : Expr → Expr → Expr × Expr
paired a b = (a, b)

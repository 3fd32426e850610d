-- The units of a file, its external declarations (C11 6.9), cut by brackets alone.
--
-- The tokens of a unit, as far as they are read, stand with the last one first.
use Rattle.std.specs.Prelude.{◌≡◌, ℕ, ◌+◌, ◌<◌, ◌≤◌, Bool, true, false, cond, ◌&&◌, ◌||◌, ◌==◌, nat_lt, nat_le, List, [], ◌∷◌, ◌++◌, ◌⊎◌, length, Option, Some, None, IfSome}
use Rattle.std.specs.Option.{option_map}
use Rattle.std.specs.List.{list_any}
use Rattle.stk_lex.specs.declared.token.Token.{Token}
use Rattle.stk_lex.specs.Cut.{AreSpans}
use Rattle.stk_lex.specs.declared.cutting.Piece.{Piece}
use Rattle.stk_lex.specs.Skimming.{ArePositions}
use Rattle.stk_lex.specs.Spelled.{opens, closes_parenthesis, opens_brace, closes_brace, is_semicolon, depth_behind}

-- the depth behind the tokens of a unit, which begins at depth 0
unfoldable pub depth_of : List ℕ → List Token → ℕ
depth_of bytes [] = 0
depth_of bytes (t ∷ before) = depth_behind bytes (depth_of bytes before) t

-- whether a token, behind the others of its unit, is a bracket that brings the depth from 0 to 1
abbrev pub is_outer : List ℕ → Token → List Token → Bool
is_outer bytes t before = opens bytes t && depth_of bytes before == 0

-- whether the last token is a `)`
unfoldable pub ends_with_parenthesis : List ℕ → List Token → Bool
ends_with_parenthesis bytes [] = false
ends_with_parenthesis bytes (t ∷ before) = closes_parenthesis bytes t

-- whether no token is there
unfoldable pub is_begin : List Token → Bool
is_begin [] = true
is_begin (t ∷ before) = false

-- how many tokens of a unit stand before its function body (C11 6.9.1): before the bracket that last brought the depth
-- from 0 to 1, if it is a `{` that follows a `)`
unfoldable pub body_of : List ℕ → List Token → Option ℕ
body_of bytes [] = None
body_of bytes (t ∷ before) =
    cond (is_outer bytes t before) (cond (opens_brace bytes t && ends_with_parenthesis bytes before) (Some (length before)) None) (body_of bytes before)

-- whether the bracket that last brought the depth from 0 to 1 is a `{` that follows a `)` or begins the unit
unfoldable pub is_braced : List ℕ → List Token → Bool
is_braced bytes [] = false
is_braced bytes (t ∷ before) =
    cond (is_outer bytes t before) (opens_brace bytes t && (is_begin before || ends_with_parenthesis bytes before)) (is_braced bytes before)

-- Whether a token ends its unit, behind the unit's other tokens: a `;` at depth 0, or a `}` that brings the depth from
-- 1 to 0, where the bracket that last brought it from 0 to 1 is a `{` that follows a `)` or begins the unit.
unfoldable pub ends_unit : List ℕ → Token → List Token → Bool
ends_unit bytes t before =
    is_semicolon bytes t && depth_of bytes before == 0 || closes_brace bytes t && depth_of bytes before == 1 && is_braced bytes before

-- whether a note lies behind the end of the unit before, and before a unit's last token
abbrev pub is_marked : List ℕ → ℕ → Token → Bool
is_marked notes end last = list_any (λ note. nat_le end note && nat_lt note last.span.from) notes

-- the unit that begins at the token `from` and has a last token and others before it, where the unit before ends at the
-- byte `end`
unfoldable pub piece_of : List ℕ → List ℕ → ℕ → ℕ → Token → List Token → Piece
piece_of bytes notes end from last before = record {
  from = from;
  to = from + length before + 1;
  body = option_map (λ n. from + n) (body_of bytes (last ∷ before));
  no_return = is_marked notes end last;
}

-- The units of tokens, behind the tokens of a unit that has begun at the token `from`, where the unit before ends at
-- the byte `end`. What is left over is a last unit.
unfoldable pub units_behind : List ℕ → List ℕ → List Token → List Token → ℕ → ℕ → List Piece
units_behind bytes notes [] [] from end = []
units_behind bytes notes [] (last ∷ before) from end = piece_of bytes notes end from last before ∷ []
units_behind bytes notes (t ∷ ts) before from end =
    cond (ends_unit bytes t before)
    (piece_of bytes notes end from t before ∷ units_behind bytes notes ts [] (from + length before + 1) t.span.to)
    (units_behind bytes notes ts (t ∷ before) from end)

-- the units of the tokens of a file, with the notes that skimming made
abbrev pub units_of : List ℕ → List Token → List ℕ → List Piece
units_of bytes tokens notes = units_behind bytes notes tokens [] 0 0

-- a unit without its mark
abbrev pub unmarked : Piece → Piece
unmarked p = record p { no_return = false }

-- tokens stand one behind the other, and notes don't go back
pub record AreInOrder (bytes : List ℕ) (tokens : List Token) (notes : List ℕ) : Type 0 where
  pub spans : AreSpans (length bytes) 0 tokens
  pub positions : ArePositions 0 notes

-- a unit's function body begins in it
abbrev pub HasBody : Piece → Type 0
HasBody p = IfSome p.body (λ n. (p.from ≤ n) × (n < p.to))

-- the pieces follow one another from one token up to another, and none is empty
abbrev pub AreJoined : ℕ → ℕ → List Piece → Type 0
AreJoined from to [] = from ≡ to
AreJoined from to (p ∷ ps) = (p.from ≡ from) × (from < p.to) × HasBody p × AreJoined p.to to ps

-- ---- the same, said of the tokens in their order

-- tokens that are read behind others, all with the last one first
unfoldable pub read_behind : List Token → List Token → List Token
read_behind before [] = before
read_behind before (t ∷ ts) = read_behind (t ∷ before) ts

-- none of these tokens ends the unit that has others before them
unfoldable pub NoneEnds : List ℕ → List Token → List Token → Type 0
NoneEnds bytes before [] = Unit {0}
NoneEnds bytes before (t ∷ ts) = (ends_unit bytes t before ≡ false) × NoneEnds bytes (t ∷ before) ts

-- The first unit of tokens: some in front and a last one. No token in front ends it, and the last one does, or no token
-- is behind it.
pub record FirstUnit (bytes : List ℕ) (tokens : List Token) : Type 0 where
  pub front : List Token
  pub last : Token
  pub rest : List Token
  pub parts : tokens ≡ front ++ last ∷ rest
  pub none_ends : NoneEnds bytes [] front
  pub ends : (ends_unit bytes last (read_behind [] front) ≡ true) ⊎ (rest ≡ [])

-- the pieces are the units of tokens in order, the first of which begins at the token `from`, where the unit before
-- ends at the byte `end`
abbrev pub AreUnits : List ℕ → List ℕ → ℕ → ℕ → List Token → List Piece → Type 0
AreUnits bytes notes from end tokens [] = tokens ≡ []
AreUnits bytes notes from end tokens (p ∷ ps) =
    (unit : FirstUnit bytes tokens)
    × ((p ≡ piece_of bytes notes end from unit.last (read_behind [] unit.front)) × AreUnits bytes notes (from + length unit.front + 1) unit.last.span.to unit.rest ps)

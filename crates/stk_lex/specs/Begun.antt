-- What cutting keeps of a unit that has begun, and of the notes.
use Rattle.std.specs.Prelude.{◌≡◌, ℕ, ◌+◌, Bool, false, cond, nat_lt, List, [], ◌∷◌, length}
use Rattle.std.specs.Option.{option_map}
use Rattle.stk_lex.specs.declared.token.Token.{Token}
use Rattle.stk_lex.specs.declared.begun.Begun.{Begun}
use Rattle.stk_lex.specs.Units.{depth_of, body_of, is_braced, ends_with_parenthesis}

-- the byte at which the last token begins
abbrev pub last_byte : List Token → ℕ
last_byte [] = 0
last_byte (t ∷ before) = t.span.from

-- a unit is what has begun with these tokens, the last one first
pub record IsBegun (bytes : List ℕ) (unit : Begun) (before : List Token) : Type 0 where
  pub next : unit.next ≡ unit.from + length before
  pub depth : unit.depth ≡ depth_of bytes before
  pub body : unit.body ≡ option_map (λ n. unit.from + n) (body_of bytes before)
  pub braced : unit.braced ≡ is_braced bytes before
  pub parenthesis : unit.parenthesis ≡ ends_with_parenthesis bytes before
  pub last : unit.last ≡ last_byte before

-- the notes from a byte on, where notes don't go back
unfoldable pub notes_from : ℕ → List ℕ → List ℕ
notes_from end [] = []
notes_from end (n ∷ ns) = cond (nat_lt n end) (notes_from end ns) (n ∷ ns)

-- whether the first note lies before a byte
abbrev pub is_first_before : ℕ → List ℕ → Bool
is_first_before byte [] = false
is_first_before byte (n ∷ ns) = nat_lt n byte

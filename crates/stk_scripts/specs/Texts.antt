-- The texts of tokens: which texts spell them, and the one that is written (SMT-LIB 2.6, section 3.1).
use Rattle.std.specs.Prelude.{◌≡◌, ℕ, ◌<◌, Bool, true, false, ◌&&◌, ◌||◌, not, nat_le, nat_eq, List, [], ◌∷◌, ◌++◌, length, if◌then◌else◌, codes}
use Rattle.std.specs.List.{list_all}
use Rattle.stk_scripts.specs.Tokens.{Token, opening, closing, word, commands}
use Rattle.stk_scripts.specs.Syntax.{Script}

-- a letter or a digit
abbrev pub is_letter : ℕ → Bool
is_letter b = (nat_le 65 b && nat_le b 90) || (nat_le 97 b && nat_le b 122)

abbrev pub is_digit : ℕ → Bool
is_digit b = nat_le 48 b && nat_le b 57

-- a byte of a word: a letter, a digit, or one of `_-=`
abbrev pub is_word_byte : ℕ → Bool
is_word_byte b = is_letter b || is_digit b || nat_eq b 95 || nat_eq b 45 || nat_eq b 61

-- a blank: space, tab, newline and carriage return
abbrev pub is_blank : ℕ → Bool
is_blank b = nat_eq b 32 || nat_eq b 9 || nat_eq b 10 || nat_eq b 13

-- the end of a line
abbrev pub ends_line : ℕ → Bool
ends_line b = nat_eq b 10 || nat_eq b 13

-- a byte of a comment behind its `;`
abbrev pub is_comment_byte : ℕ → Bool
is_comment_byte b = not (ends_line b)

-- no byte of a word stands first
abbrev pub ends_word : List ℕ → Bool
ends_word [] = true
ends_word (b ∷ bs) = not (is_word_byte b)

-- no byte of a comment stands first
abbrev pub ends_comment : List ℕ → Bool
ends_comment [] = true
ends_comment (b ∷ bs) = ends_line b

-- The text is these tokens in order, with blanks and comments before, between and behind them. No word is followed by a
-- byte of a word, and a comment goes to the end of its line.
pub data Spells : List Token → List ℕ → Type 0 where
  none : Spells [] []
  blank : {ts : List Token} {b : ℕ} {bs : List ℕ} → is_blank b ≡ true → Spells ts bs → Spells ts (b ∷ bs)
  comment : {ts : List Token} {text : List ℕ} (inside bs : List ℕ) → text ≡ 59 ∷ (inside ++ bs) → list_all is_comment_byte inside ≡ true → ends_comment bs ≡ true → Spells ts bs → Spells ts text
  opens : {ts : List Token} {bs : List ℕ} → Spells ts bs → Spells (opening ∷ ts) (40 ∷ bs)
  closes : {ts : List Token} {bs : List ℕ} → Spells ts bs → Spells (closing ∷ ts) (41 ∷ bs)
  worded : {ts : List Token} {w text : List ℕ} (bs : List ℕ) → text ≡ w ++ bs → 0 < length w → list_all is_word_byte w ≡ true → ends_word bs ≡ true → Spells ts bs → Spells (word w ∷ ts) text

-- a space, but before the end and before `)`
abbrev pub spaced : List Token → List ℕ
spaced [] = []
spaced (opening ∷ ts) = 32 ∷ []
spaced (closing ∷ ts) = []
spaced (word w ∷ ts) = 32 ∷ []

-- tokens as they are written: a space between two, but behind `(` and before `)`
abbrev pub laid : List Token → List ℕ
laid [] = []
laid (opening ∷ ts) = 40 ∷ laid ts
laid (closing ∷ ts) = 41 ∷ (spaced ts ++ laid ts)
laid (word w ∷ ts) = w ++ (spaced ts ++ laid ts)

-- commands as they are written, each in a line
abbrev pub lines : List (List Token) → List ℕ
lines [] = []
lines (ts ∷ tss) = laid ts ++ 10 ∷ lines tss

abbrev pub script_text : Script → List ℕ
script_text s = lines (commands s)

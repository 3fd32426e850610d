-- The classes of tokens. Each test is of a whole text, a list of bytes.
use Rattle.std.specs.Prelude.{◌≡◌, ℕ, ◌<◌, ◌≤◌, Bool, true, false, cond, ◌&&◌, ◌||◌, ◌==◌, not, List, [], ◌∷◌, length, take}
use Rattle.std.specs.List.{list_any, list_all}
use Rattle.std.specs.Char.{is_ascii_alphabetic, is_ascii_digit}

-- ---- words (C11 6.4.2.1)

-- a letter or `_`
abbrev pub begins_word : ℕ → Bool
begins_word b = is_ascii_alphabetic b || b == 95

-- a letter, `_` or a digit
abbrev pub is_word_byte : ℕ → Bool
is_word_byte b = begins_word b || is_ascii_digit b

-- a letter or `_`, then letters, digits and `_`
abbrev pub is_word : List ℕ → Bool
is_word [] = false
is_word (b ∷ bs) = begins_word b && list_all is_word_byte bs

-- ---- numbers: preprocessing numbers (C11 6.4.8)

-- `e`, `E`, `p` or `P`
abbrev pub is_exponent : ℕ → Bool
is_exponent b = b == 101 || b == 69 || b == 112 || b == 80

-- a byte of a number, behind this one: a digit, a letter, `_` or `.`, or a sign behind an exponent
abbrev pub may_follow : ℕ → ℕ → Bool
may_follow before b = is_word_byte b || b == 46 || is_exponent before && (b == 43 || b == 45)

-- what stands behind a byte of a number
abbrev pub goes_on : ℕ → List ℕ → Bool
goes_on before [] = true
goes_on before (b ∷ bs) = may_follow before b && goes_on b bs

-- a digit, and what goes on
abbrev pub is_digits : List ℕ → Bool
is_digits [] = false
is_digits (b ∷ bs) = is_ascii_digit b && goes_on b bs

-- the same behind a `.`
abbrev pub is_dotted : List ℕ → Bool
is_dotted [] = false
is_dotted (b ∷ bs) = b == 46 && is_digits bs

-- a digit, or `.` and a digit, and what goes on
unfoldable pub is_number : List ℕ → Bool
is_number bs = is_digits bs || is_dotted bs

-- ---- characters (C11 6.4.4.4) and texts (C11 6.4.5)

-- nothing is left
abbrev pub is_nil : List ℕ → Bool
is_nil [] = true
is_nil (b ∷ bs) = false

-- behind the opening quote: any bytes but the quote, a backslash and a newline, or a backslash and a byte other
-- than a newline; and the quote. The flag says that a backslash stands before.
abbrev pub closes : ℕ → Bool → List ℕ → Bool
closes quote escaped [] = false
closes quote escaped (b ∷ bs) = cond (not escaped && b == quote) (is_nil bs) (not (b == 10) && closes quote (not escaped && b == 92) bs)

-- a quote, and what closes it
abbrev pub is_quoted : ℕ → List ℕ → Bool
is_quoted quote [] = false
is_quoted quote (b ∷ bs) = b == quote && closes quote false bs

-- one byte that passes, before a quoted text
abbrev pub is_marked : (ℕ → Bool) → ℕ → List ℕ → Bool
is_marked is_first quote [] = false
is_marked is_first quote (b ∷ bs) = is_first b && is_quoted quote bs

-- `L`, `u` or `U`
abbrev pub is_prefix : ℕ → Bool
is_prefix b = b == 76 || b == 117 || b == 85

-- bytes between single quotes, which may have `L`, `u` or `U` before them
unfoldable pub is_character : List ℕ → Bool
is_character bs = is_quoted 39 bs || is_marked is_prefix 39 bs

-- `u8` before a quoted text
abbrev pub is_utf8 : ℕ → List ℕ → Bool
is_utf8 quote [] = false
is_utf8 quote (b ∷ bs) = b == 117 && is_marked (λ c. c == 56) quote bs

-- bytes between double quotes, which may have `L`, `u`, `U` or `u8` before them
unfoldable pub is_text : List ℕ → Bool
is_text bs = is_quoted 34 bs || is_marked is_prefix 34 bs || is_utf8 34 bs

-- ---- punctuators, the digraphs left out (C11 6.4.6)

-- `[ ] ( ) { } . & * + - ~ ! / % < > ^ | ? : ; = ,`
abbrev pub punctuators_of_one : List ℕ
punctuators_of_one = 91 ∷ 93 ∷ 40 ∷ 41 ∷ 123 ∷ 125 ∷ 46 ∷ 38 ∷ 42 ∷ 43 ∷ 45 ∷ 126 ∷ 33 ∷ 47 ∷ 37 ∷ 60 ∷ 62 ∷ 94 ∷ 124 ∷ 63 ∷ 58 ∷ 59 ∷ 61 ∷ 44 ∷ []

-- `-> ++ -- << >> <= >= == != && || *= /= %= += -= &= ^= |=`
abbrev pub punctuators_of_two : List (ℕ × ℕ)
punctuators_of_two =
    (45, 62) ∷ (43, 43) ∷ (45, 45) ∷ (60, 60) ∷ (62, 62) ∷ (60, 61) ∷ (62, 61) ∷ (61, 61) ∷ (33, 61) ∷ (38, 38) ∷ (124, 124)
    ∷ (42, 61) ∷ (47, 61) ∷ (37, 61) ∷ (43, 61) ∷ (45, 61) ∷ (38, 61) ∷ (94, 61) ∷ (124, 61) ∷ []

-- `... <<= >>=`
abbrev pub punctuators_of_three : List (ℕ × ℕ × ℕ)
punctuators_of_three = (46, 46, 46) ∷ (60, 60, 61) ∷ (62, 62, 61) ∷ []

-- one of the punctuators of one byte
abbrev pub is_punctuator_of_one : List ℕ → Bool
is_punctuator_of_one (a ∷ []) = list_any (λ m. m == a) punctuators_of_one
is_punctuator_of_one bs = false

-- one of the punctuators of two bytes
abbrev pub is_punctuator_of_two : List ℕ → Bool
is_punctuator_of_two (a ∷ b ∷ []) = list_any (λ m. m.0 == a && m.1 == b) punctuators_of_two
is_punctuator_of_two bs = false

-- one of the punctuators of three bytes
abbrev pub is_punctuator_of_three : List ℕ → Bool
is_punctuator_of_three (a ∷ b ∷ c ∷ []) = list_any (λ m. m.0 == a && m.1 == b && m.2 == c) punctuators_of_three
is_punctuator_of_three bs = false

-- one of the punctuators of one, two or three bytes
unfoldable pub is_punctuator : List ℕ → Bool
is_punctuator bs = is_punctuator_of_one bs || is_punctuator_of_two bs || is_punctuator_of_three bs

-- ---- digraphs (C11 6.4.6p3)

-- `<: :> <% %> %:`
abbrev pub digraphs_of_two : List (ℕ × ℕ)
digraphs_of_two = (60, 58) ∷ (58, 62) ∷ (60, 37) ∷ (37, 62) ∷ (37, 58) ∷ []

-- one of the digraphs of two bytes
abbrev pub is_digraph_of_two : List ℕ → Bool
is_digraph_of_two (a ∷ b ∷ []) = list_any (λ m. m.0 == a && m.1 == b) digraphs_of_two
is_digraph_of_two bs = false

-- the digraph of four bytes: `%:%:`
abbrev pub is_digraph_of_four : List ℕ → Bool
is_digraph_of_four (a ∷ b ∷ c ∷ d ∷ []) = a == 37 && b == 58 && c == 37 && d == 58
is_digraph_of_four bs = false

-- one of the digraphs of two or four bytes
unfoldable pub is_digraph : List ℕ → Bool
is_digraph bs = is_digraph_of_two bs || is_digraph_of_four bs

-- ---- the longest text at the front

-- the first n bytes are the longest text at the front that the test lets pass; 0 where none passes
pub record IsLongest (test : List ℕ → Bool) (bytes : List ℕ) (n : ℕ) : Type 0 where
  pub within : n ≤ length bytes
  pub passes : 0 < n → test (take n bytes) ≡ true
  pub longest : (m : ℕ) → n < m → m ≤ length bytes → test (take m bytes) ≡ false

-- How long the longest text of a class is at the front, from left to right; 0 where there is none.
use Rattle.std.specs.Prelude.{ℕ, suc, Bool, false, cond, ◌&&◌, ◌==◌, not, max, List, [], ◌∷◌, take}
use Rattle.std.specs.Char.{is_ascii_digit}
use Rattle.stk_lex.specs.Classes.{begins_word, is_word_byte, may_follow, is_prefix, is_punctuator_of_one, is_punctuator_of_two, is_punctuator_of_three, is_digraph_of_two, is_digraph_of_four}
use Rattle.stk_lex.specs.Gaps.{one_more}

-- how many word bytes stand at the front
unfoldable pub word_run : List ℕ → ℕ
word_run [] = 0
word_run (b ∷ bs) = cond (is_word_byte b) (suc (word_run bs)) 0

-- a word
abbrev pub word_length : List ℕ → ℕ
word_length [] = 0
word_length (b ∷ bs) = cond (begins_word b) (suc (word_run bs)) 0

-- how many bytes of a number stand at the front, behind a byte of it
unfoldable pub number_run : ℕ → List ℕ → ℕ
number_run before [] = 0
number_run before (b ∷ bs) = cond (may_follow before b) (suc (number_run b bs)) 0

-- a number that begins with a digit
abbrev pub digits_length : List ℕ → ℕ
digits_length [] = 0
digits_length (b ∷ bs) = cond (is_ascii_digit b) (suc (number_run b bs)) 0

-- a number that begins with `.`
abbrev pub dotted_length : List ℕ → ℕ
dotted_length [] = 0
dotted_length (b ∷ bs) = cond (b == 46) (one_more (digits_length bs)) 0

-- a number
abbrev pub number_length : List ℕ → ℕ
number_length bs = max (digits_length bs) (dotted_length bs)

-- how many bytes stand up to the closing quote, and with it; the flag says that a backslash stands before
unfoldable pub closing : ℕ → Bool → List ℕ → ℕ
closing quote escaped [] = 0
closing quote escaped (b ∷ bs) = cond (not escaped && b == quote) 1 (cond (b == 10) 0 (one_more (closing quote (not escaped && b == 92) bs)))

-- a quoted text
abbrev pub quoted_length : ℕ → List ℕ → ℕ
quoted_length quote [] = 0
quoted_length quote (b ∷ bs) = cond (b == quote) (one_more (closing quote false bs)) 0

-- a quoted text behind one byte that passes
abbrev pub marked_length : (ℕ → Bool) → ℕ → List ℕ → ℕ
marked_length is_first quote [] = 0
marked_length is_first quote (b ∷ bs) = cond (is_first b) (one_more (quoted_length quote bs)) 0

-- a quoted text behind `u8`
abbrev pub utf8_length : ℕ → List ℕ → ℕ
utf8_length quote [] = 0
utf8_length quote (b ∷ bs) = cond (b == 117) (one_more (marked_length (λ c. c == 56) quote bs)) 0

-- a character
abbrev pub character_length : List ℕ → ℕ
character_length bs = max (quoted_length 39 bs) (marked_length is_prefix 39 bs)

-- a text between double quotes
abbrev pub text_length : List ℕ → ℕ
text_length bs = max (max (quoted_length 34 bs) (marked_length is_prefix 34 bs)) (utf8_length 34 bs)

-- a text of n bytes
abbrev pub fixed_length : (List ℕ → Bool) → ℕ → List ℕ → ℕ
fixed_length test n bs = cond (test (take n bs)) n 0

-- a punctuator
abbrev pub punctuator_length : List ℕ → ℕ
punctuator_length bs = max (max (fixed_length is_punctuator_of_one 1 bs) (fixed_length is_punctuator_of_two 2 bs)) (fixed_length is_punctuator_of_three 3 bs)

-- a digraph
abbrev pub digraph_length : List ℕ → ℕ
digraph_length bs = max (fixed_length is_digraph_of_two 2 bs) (fixed_length is_digraph_of_four 4 bs)

-- any form that a text has by itself
abbrev pub form_length : List ℕ → ℕ
form_length bs = max (max (max (max (max (word_length bs) (number_length bs)) (character_length bs)) (text_length bs)) (punctuator_length bs)) (digraph_length bs)

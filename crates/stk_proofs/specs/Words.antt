-- The words of a text: the stretches of bytes between blanks, in the lines that don't begin with `c`.
use Rattle.std.specs.Prelude.{ℕ, Bool, true, false, not, ◌&&◌, ◌||◌, nat_eq, if◌then◌else◌, List, [], ◌∷◌}

-- spaces, tabs, newlines and carriage returns
abbrev pub is_blank : ℕ → Bool
is_blank b = nat_eq b 32 || nat_eq b 9 || nat_eq b 10 || nat_eq b 13

-- whether a text begins with a byte that is no blank
abbrev pub begins_word : List ℕ → Bool
begins_word [] = false
begins_word (b ∷ bs) = not (is_blank b)

-- words, the first one with a byte more in front
abbrev pub longer : ℕ → List (List ℕ) → List (List ℕ)
longer b [] = (b ∷ []) ∷ []
longer b (w ∷ ws) = (b ∷ w) ∷ ws

-- words with a byte in front that is no blank: it is a word of its own unless a word begins right behind it
abbrev pub with_byte : ℕ → Bool → List (List ℕ) → List (List ℕ)
with_byte b true ws = longer b ws
with_byte b false ws = (b ∷ []) ∷ ws

-- the longest stretches of bytes that are no blanks
abbrev pub stretches : List ℕ → List (List ℕ)
stretches [] = []
stretches (b ∷ bs) = if is_blank b then stretches bs else with_byte b (begins_word bs) (stretches bs)

-- whether a byte is dropped: it is in a line that is being dropped, or it is the `c` at the start of one
abbrev pub is_dropped : Bool → Bool → ℕ → Bool
is_dropped starts dropping b = dropping || (starts && nat_eq b 99)

-- a text without its lines that begin with `c`, by whether it starts a line and whether it is in a line that is dropped
abbrev pub uncommented : Bool → Bool → List ℕ → List ℕ
uncommented starts dropping [] = []
uncommented starts dropping (b ∷ bs) =
    if is_dropped starts dropping b then uncommented (nat_eq b 10) (not (nat_eq b 10)) bs else b ∷ uncommented (nat_eq b 10) false bs

-- the words of a text
abbrev pub words_of : List ℕ → List (List ℕ)
words_of bytes = stretches (uncommented true false bytes)

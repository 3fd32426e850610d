-- String literals, and strings of several literals in a row (C11 6.4.5, 5.1.1.2p1).
use Rattle.std.specs.Prelude.{ℕ, Bool, true, false, List, [], ◌∷◌, ◌++◌, Option, Some, None, zero, suc, length}
use Rattle.std.specs.Option.{option_map, option_and_then}
use Rattle.stk_numbers.specs.Characters.{byte_at, between}

-- bytes with others in front, where there are some
abbrev pub in_front : List ℕ → Option (List ℕ) → Option (List ℕ)
in_front before found = option_map (λ ns. before ++ ns) found

-- the bytes that a text spells one behind the other, each as itself or by an escape; the number is the most bytes that
-- it may spell
abbrev pub spelled : ℕ → List ℕ → Option (List ℕ)
spelled most [] = Some []
spelled zero (c ∷ rest) = None
spelled (suc most) (c ∷ rest) = option_and_then (λ p. option_map (λ ns. p.0 ∷ ns) (spelled most p.1)) (byte_at (c ∷ rest))

-- the bytes of a literal: those that the text between its quotes spells; a byte takes a byte at least
abbrev pub literal_bytes : List ℕ → Option (List ℕ)
literal_bytes text = option_and_then (λ inside. spelled (length inside) inside) (between 34 text)

-- the bytes of literals in a row: those of one behind those of the other, so an escape ends with its literal
abbrev pub string_bytes : List (List ℕ) → Option (List ℕ)
string_bytes [] = Some []
string_bytes (text ∷ rest) = option_and_then (λ ns. in_front ns (string_bytes rest)) (literal_bytes text)

-- what was gathered, where all could be
abbrev pub if_all : Bool → List ℕ → Option (List ℕ)
if_all true ns = Some ns
if_all false ns = None

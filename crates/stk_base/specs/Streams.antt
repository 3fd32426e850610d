-- What calls do to the bytes that a source has left and to those that a sink took, where these tell them (`Some`).
use Rattle.std.specs.Prelude.{◌≡◌, ℕ, List, [], ◌++◌, length, Option, Some}
use Rattle.std.specs.Option.{option_map}

-- these bytes came out of a source: they stood in front of what is left now
abbrev pub Came : Option (List ℕ) → Option (List ℕ) → List ℕ → Type 0
Came before after bytes = before ≡ option_map (λ rest. bytes ++ rest) after

-- a source has nothing left
abbrev pub IsSpent : Option (List ℕ) → Type 0
IsSpent left = (bytes : List ℕ) → left ≡ Some bytes → bytes ≡ []

-- a sink took these bytes, behind those that it had taken
abbrev pub Appended : Option (List ℕ) → Option (List ℕ) → List ℕ → Type 0
Appended before after bytes = after ≡ option_map (λ taken. taken ++ bytes) before

-- a sink took some prefix of these bytes and nothing else
abbrev pub AppendedPrefix : Option (List ℕ) → Option (List ℕ) → List ℕ → Type 0
AppendedPrefix before after bytes = (front rest : List ℕ) × (bytes ≡ front ++ rest) × Appended before after front

-- all that a sink took is flushed
abbrev pub IsFlushed : Option (List ℕ) → ℕ → Type 0
IsFlushed taken flushed = (bytes : List ℕ) → taken ≡ Some bytes → flushed ≡ length bytes

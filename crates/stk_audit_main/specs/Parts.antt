-- How an input stands for a bundle and its source.
use Rattle.std.specs.Prelude.{◌≢◌, ◌<◌, ◌⊎◌, ℕ, List, [], ◌∷◌, ◌++◌, length, codes}
use Rattle.stk_line_reading.specs.Lines.{IsFirst}

-- The bundle goes up to the first line `end`, with its newline, and the source is what comes behind that. Where no line
-- is `end`, all of the input is the bundle.
pub data IsSplit : List ℕ → List ℕ → List ℕ → Type 0 where
  ends : {text source : List ℕ} → IsFirst text (codes "end") source → IsSplit text (codes "end" ++ 10 ∷ []) source
  goes_on : {text line rest bundle source : List ℕ} → IsFirst text line rest → line ≢ codes "end" → IsSplit rest bundle source → IsSplit text (line ++ 10 ∷ bundle) source
  all_of_it : {text : List ℕ} → ((line rest : List ℕ) → IsFirst text line rest → ⊥) → IsSplit text text []

-- the most bytes of a bundle and of a source, and of both together
abbrev pub most_bundle : ℕ
most_bundle = 1073741824

abbrev pub most_source : ℕ
most_source = 16777216

abbrev pub most_input : ℕ
most_input = 1090519040

-- the bundle or the source of an input is too large
pub record HasLargePart (bytes : List ℕ) : Type 0 where
  pub bundle : List ℕ
  pub source : List ℕ
  pub split : IsSplit bytes bundle source
  pub large : (most_bundle < length bundle) ⊎ (most_source < length source)

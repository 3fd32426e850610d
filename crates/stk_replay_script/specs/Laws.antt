-- Laws of the texts of scripts.
use Rattle.std.specs.Prelude.{◌≡◌, ℕ, List, ℤ}
use Rattle.stk_replay_script.specs.declared.script.Script.{Script}
use Rattle.stk_replay_script.specs.Scripts.{IsInput}
use Rattle.stk_replay_script.specs.Starts.{IsStart}

-- an input is one script and one source at most
abbrev pub InputsHaveOneReading : Type 0
InputsHaveOneReading = (bytes : List ℕ) (s t : Script) (x y : List ℕ) → IsInput bytes s x → IsInput bytes t y → (s ≡ t) × (x ≡ y)

-- a text gives keys one number each at most
abbrev pub StartsHaveOneReading : Type 0
StartsHaveOneReading = (keys : List (List ℕ)) (text : List ℕ) (xs ys : List ℤ) → IsStart keys text xs → IsStart keys text ys → xs ≡ ys

-- The start of a script.
use Rattle.std.specs.Prelude.{◌≡◌, ℕ, true, List, ◌++◌, length, ℤ, codes}
use Rattle.std.specs.List.{AllByRecursion}
use Rattle.std.specs.Fmt.{signed_decimal}
use Rattle.stk_line_reading.specs.Cuts.{begins_or_ends}
use Rattle.stk_records.specs.Text.{printed, inputs_of, inputs_text, more_inputs}
use Rattle.stk_replay_script.specs.Scripts.{IsOfSomeKind}

-- A text is a start: a number for each key, in the order of the keys and by their texts, as records print it.
pub record IsStart (keys : List (List ℕ)) (text : List ℕ) (numbers : List ℤ) : Type 0 where
  pub same : text ≡ inputs_text (inputs_of keys numbers)
  pub each : length numbers ≡ length keys
  pub are : AllByRecursion IsOfSomeKind numbers

-- the same of inputs that each have a space in front
pub record AreMore (keys : List (List ℕ)) (text : List ℕ) (numbers : List ℤ) : Type 0 where
  pub same : text ≡ more_inputs (inputs_of keys numbers)
  pub each : length numbers ≡ length keys
  pub are : AllByRecursion IsOfSomeKind numbers

-- they were noted behind others
pub record AreAdded (keys : List (List ℕ)) (text : List ℕ) (before after : List ℤ) : Type 0 where
  pub numbers : List ℤ
  pub added : after ≡ before ++ numbers
  pub are : AreMore keys text numbers

-- a text begins with the number of a key
pub record IsNextInput (key text : List ℕ) (number : ℤ) (behind : List ℕ) : Type 0 where
  pub same : text ≡ printed key ++ (codes "=" ++ (signed_decimal number ++ behind))
  pub is : IsOfSomeKind number
  pub stops : begins_or_ends 32 behind ≡ true

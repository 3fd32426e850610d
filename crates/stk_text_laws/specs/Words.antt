-- Laws of the words on the command line: they ask for one thing.
use Rattle.std.specs.Prelude.{◌≡◌, ℕ, List, Some}
use Rattle.stk_records.specs.declared.options.Options.{Options}
use Rattle.stk_records.specs.Words.{AreLegal}
use Rattle.stk_lint.specs.Lint.{AskForReading}

-- words that are legal ask for one set of options
abbrev pub WordsAskForOne : Type 0
WordsAskForOne = (words : List (List ℕ)) (o p : Options) → AreLegal words o → AreLegal words p → o ≡ p

-- words that ask for a generated text don't ask for reading
abbrev pub GeneratingIsNoReading : Type 0
GeneratingIsNoReading = (words : List (List ℕ)) (o : Options) (asked : ℕ × ℕ) → AreLegal words o → o.generate ≡ Some asked → AskForReading words → ⊥

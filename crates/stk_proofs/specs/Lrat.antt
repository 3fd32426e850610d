-- Derivations as texts of LRAT: what is written, what a text says, and which derivations have a text.
use Rattle.std.specs.Prelude.{◌≡◌, ℕ, ◌+◌, ◌/◌, ◌^◌, ◌<◌, List, [], ◌∷◌, ◌++◌, length, Some, decimal}
use Rattle.std.specs.List.{All}
use Rattle.stk_clauses.specs.declared.literal.Lit.{Lit}
use Rattle.stk_clauses.specs.declared.derivation.Derived.{Derived}
use Rattle.stk_clauses.specs.declared.derivation.Derivation.{Derivation}
use Rattle.stk_proofs.specs.Words.{words_of}
use Rattle.stk_proofs.specs.Numbers.{number_in}
use Rattle.stk_proofs.specs.Entries.{literal_entry, hint_entry, listed}
use Rattle.stk_proofs.specs.Dimacs.{literals_text}

-- ---- writing

-- hints, each with a space behind it: the clause with number n has the id n + 1
abbrev pub hints_text : List ℕ → List ℕ
hints_text [] = []
hints_text (h ∷ hs) = decimal (h + 1) ++ 32 ∷ hints_text hs

-- the line of a step: its id, its literals, `0`, its hints' ids, `0` and a newline
abbrev pub step_text : ℕ → Derived → List ℕ
step_text id s = decimal id ++ 32 ∷ literals_text s.clause ++ 48 ∷ 32 ∷ hints_text s.hints ++ 48 ∷ 10 ∷ []

-- the lines of steps whose ids run from a number on
abbrev pub steps_text : ℕ → List Derived → List ℕ
steps_text id [] = []
steps_text id (s ∷ ss) = step_text id s ++ steps_text (id + 1) ss

-- the text of a derivation over so many given clauses
abbrev pub lrat_text : ℕ → Derivation → List ℕ
lrat_text given d = steps_text (given + 1) d.steps

-- ---- reading

-- the greatest number of a literal
abbrev pub most_number : ℕ
most_number = 2147483647

-- words are these steps alone, their ids from this one on: of each its id, its literals and its hints, both up to a 0
pub data AreLratSteps : ℕ → List (List ℕ) → List Derived → Type 0 where
  no_step : {id : ℕ} → AreLratSteps id [] []
  then_step : {id : ℕ} {w : List ℕ} {ws behind rest : List (List ℕ)} {clause : List Lit} {hints : List ℕ} {ss : List Derived} → number_in w ≡ Some id → listed (literal_entry most_number) ws ≡ Some (clause, behind)
      → listed hint_entry behind ≡ Some (hints, rest) → AreLratSteps (id + 1) rest ss → AreLratSteps id (w ∷ ws) (record { clause = clause; hints = hints } ∷ ss)

-- a text says this derivation over so many given clauses
abbrev pub IsLrat : ℕ → List ℕ → Derivation → Type 0
IsLrat given bytes d = AreLratSteps (given + 1) (words_of bytes) d.steps

-- ---- which derivations have a text

-- each literal and each hint of a step is written as a number below 2^31
pub record FitsLratLine (s : Derived) : Type 0 where
  pub literals : All (λ (l : Lit). l.0 / 2 + 1 < 2 ^ 31) s.clause
  pub hints : All (λ (h : ℕ). h + 1 < 2 ^ 31) s.hints

-- each number that is written of a derivation is below 2^31
pub record FitsLrat (given : ℕ) (d : Derivation) : Type 0 where
  pub ids : 0 < length d.steps → given + length d.steps < 2 ^ 31
  pub steps : All FitsLratLine d.steps

-- Laws of the candidates of an input: they are one list, so what is asked for by its number is one candidate, or none.
use Rattle.std.specs.Prelude.{◌≡◌, ℕ, List}
use Rattle.stk_numbers.specs.declared.conditions.Kinds.{Kinds}
use Rattle.stk_records.specs.declared.options.AskedScript.{AskedScript}
use Rattle.stk_lint.specs.Queries.{FunctionCandidate}
use Rattle.stk_lint.specs.Candidates.{AreInputCandidates, IsInputScript, HasFewCandidates}

-- each text has candidates, which may be none
abbrev pub EachTextHasCandidates : Type 0
EachTextHasCandidates = (bytes : List ℕ) (without : Kinds) → (all : List FunctionCandidate) × AreInputCandidates bytes without all

-- no text has two lists of candidates
abbrev pub OneListOfCandidates : Type 0
OneListOfCandidates = (bytes : List ℕ) (without : Kinds) (all other : List FunctionCandidate) → AreInputCandidates bytes without all → AreInputCandidates bytes without other → all ≡ other

-- no text has both the script that is asked for and fewer candidates
abbrev pub ScriptOrTooFew : Type 0
ScriptOrTooFew = (bytes : List ℕ) (without : Kinds) (asked : AskedScript) (text : List ℕ) → IsInputScript bytes without asked text → HasFewCandidates bytes without asked → ⊥

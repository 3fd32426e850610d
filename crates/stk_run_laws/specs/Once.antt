-- Each node is evaluated at most once in a path run: no candidate is hit twice, and no condition is violated twice.
use Rattle.std.specs.Prelude.{◌≡◌, ◌≢◌, true, List, [], ◌∷◌, ◌++◌, ℤ}
use Rattle.stk_tree.specs.Syntax.{FunctionTree}
use Rattle.stk_numbers.specs.declared.conditions.Candidate.{Candidate}
use Rattle.stk_numbers.specs.declared.conditions.Condition.{Condition}
use Rattle.stk_numbers.specs.declared.conditions.Kinds.{Kinds}
use Rattle.stk_meaning.specs.declared.entry.Entry.{Entry}
use Rattle.stk_meaning.specs.declared.entry.Entry.TheVariants.{Ub}
use Rattle.stk_meaning.specs.Typings.{Typing}
use Rattle.stk_meaning.specs.Maps.{IsValid}
use Rattle.stk_meaning.specs.Paths.{path}
use Rattle.stk_meaning.specs.Hits.{hits, HitsFree}
use Rattle.stk_meaning.specs.Sufficient.{IsPathSufficient}
use Rattle.stk_run_laws.specs.Visits.{IsNumbered}
use Rattle.stk_run_laws.specs.TypedOperands.{HasScalarOperands}

-- no two entries of the trace hit one candidate, and no two violate one condition
pub record IsOnce (trace : List Entry) : Type 0 where
  pub hit : (c : Candidate) (before : List Entry) (e : Entry) (between : List Entry) (e' : Entry) (behind : List Entry) → trace ≡ before ++ (e ∷ (between ++ (e' ∷ behind))) → hits c e ≡ true → hits c e' ≡ true → ⊥
  pub violated : (k : Condition) (before between behind : List Entry) → trace ≡ before ++ (Ub k ∷ (between ++ (Ub k ∷ behind))) → ⊥

-- the trace of a path run, from any numbers
abbrev pub EachNodeIsEvaluatedOnce : Type 0
EachNodeIsEvaluatedOnce = (ty : Typing) (without : Kinds) (f : FunctionTree) → IsNumbered ty f → HasScalarOperands ty f → (numbers : List ℤ) → IsOnce (path ty without f numbers)

-- a set that suffices for a candidate that some path run hits has a member
abbrev pub ASufficientSetHasAMember : Type 0
ASufficientSetHasAMember = (ty : Typing) (without : Kinds) (f : FunctionTree) (c : Candidate) (set : List Condition) (start : List ℤ) → IsValid ty without f start → HitsFree [] c (path ty without f start) → IsPathSufficient ty without f c set → set ≢ []

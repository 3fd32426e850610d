-- What a lawful report shows of its set of conditions (Wang, Zeldovich, Kaashoek, Solar-Lezama, SOSP 2013,
-- section 4.5).
use Rattle.std.specs.Prelude.{List, [], ◌∷◌, ℤ, if◌then◌else◌}
use Rattle.stk_tree.specs.Syntax.{FunctionTree}
use Rattle.stk_numbers.specs.declared.conditions.Candidate.{Candidate}
use Rattle.stk_numbers.specs.declared.conditions.Condition.{Condition}
use Rattle.stk_numbers.specs.declared.conditions.Kinds.{Kinds}
use Rattle.stk_meaning.specs.declared.finding.Need.{Need}
use Rattle.stk_meaning.specs.Typings.{Typing}
use Rattle.stk_meaning.specs.Hits.{same_condition, HitsFree}
use Rattle.stk_meaning.specs.Lists.{conditions}
use Rattle.stk_meaning.specs.Maps.{IsValid}
use Rattle.stk_meaning.specs.Paths.{path}
use Rattle.stk_meaning.specs.Findings.{members, shown_need, IsLawfulReport}
use Rattle.stk_meaning.specs.PathFindings.{function_subject}
use Rattle.stk_run_laws.specs.Visits.{IsIn, IsNumbered}
use Rattle.stk_run_laws.specs.Listed.{ConditionBefore, AreInOrder}

-- a set without one of its members
abbrev pub without : Condition → List Condition → List Condition
without k [] = []
without k (j ∷ js) = if same_condition j k then without k js else j ∷ without k js

-- a start needs a member of a set: the map is valid, and its run hits the candidate free of the rest of the set
pub record IsNeeded (ty : Typing) (taken : Kinds) (f : FunctionTree) (c : Candidate) (set : List Condition) (k : Condition) (start : List ℤ) : Type 0 where
  pub valid : IsValid ty taken f start
  pub hits : HitsFree (without k set) c (path ty taken f start)

-- the set is of the function's conditions, each before those that follow it, and each member that is shown is needed
pub record ShowsItsSet (ty : Typing) (taken : Kinds) (f : FunctionTree) (c : Candidate) (needs : List Need) : Type 0 where
  pub listed : (k : Condition) → IsIn k (members needs) → IsIn k (conditions ty taken f)
  pub ascending : AreInOrder ConditionBefore (members needs)
  pub needed : (k : Condition) (start : List ℤ) → IsIn (shown_need k start) needs → IsNeeded ty taken f c (members needs) k start

-- wherever queries may be given up
abbrev pub ReportsShowTheirSets : Type 0
ReportsShowTheirSets =
    (ty : Typing) (taken : Kinds) (f : FunctionTree) → IsNumbered ty f → (c : Candidate) (start : List ℤ) (needs : List Need) → IsLawfulReport (function_subject ty taken f (λ x set. Unit {0})) c start needs → ShowsItsSet ty taken f c needs

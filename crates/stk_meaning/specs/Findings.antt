-- Which findings are lawful for a candidate: the paper's elimination and simplification queries, its rule that code
-- which is dead without the assumption isn't reported, and sets of conditions that are minimal by deletion (Wang,
-- Zeldovich, Kaashoek, Solar-Lezama, SOSP 2013, sections 3 and 4.5). They speak of any maps with an order and a run of
-- each, and of a list of conditions.
use Rattle.std.specs.Prelude.{◌≡◌, Bool, true, false, List, [], ◌∷◌, ◌++◌, ℤ, Some, None, map}
use Rattle.stk_numbers.specs.declared.conditions.Candidate.{Candidate}
use Rattle.stk_numbers.specs.declared.conditions.Condition.{Condition}
use Rattle.stk_meaning.specs.declared.entry.Entry.{Entry}
use Rattle.stk_meaning.specs.declared.finding.Finding.{Finding}
use Rattle.stk_meaning.specs.declared.finding.Finding.TheVariants.{Clear, Unstable, Undecided}
use Rattle.stk_meaning.specs.declared.finding.Need.{Need}
use Rattle.stk_meaning.specs.declared.finding.Phase.{Phase}
use Rattle.stk_meaning.specs.declared.finding.Phase.TheVariants.{Free, Hit}
use Rattle.stk_meaning.specs.Hits.{HitsFree}

-- the conditions of a finding's set
abbrev pub members : List Need → List Condition
members needs = map (λ n. n.condition) needs

-- a member of the set with the start that shows it, and one that is open
abbrev pub shown_need : Condition → List ℤ → Need
shown_need k start = record { condition = k; shown = Some (record { numbers = start }) }

abbrev pub open_need : Condition → Need
open_need k = record { condition = k; shown = None }

-- What findings speak of: the maps and their order; the trace of each one's run; all conditions, in ascending order;
-- whether so few maps are there that all are tried; for which candidates and sets the query may be given up; and which
-- sets suffice for a candidate in every execution.
pub record Subject : Type 1 where
  pub IsMap : List ℤ → Type 0
  pub Before : List ℤ → List ℤ → Type 0
  pub run : List ℤ → List Entry
  pub conditions : List Condition
  pub tries_all : Bool
  pub Spent : Candidate → List Condition → Type 0
  pub Suffices : Candidate → List Condition → Type 0

module _ (q : Subject) (c : Candidate) where
  -- a map answers the query for a set of conditions: its run hits the candidate free of the set
  pub record Answers (set : List Condition) (start : List ℤ) : Type 0 where
    pub valid : q.IsMap start
    pub hits : HitsFree set c (q.run start)

  -- no map answers the query
  abbrev pub NoAnswer : List Condition → Type 0
  NoAnswer set = (start : List ℤ) → Answers set start → ⊥

  -- the first map that answers the query
  pub record IsFirstAnswer (set : List Condition) (start : List ℤ) : Type 0 where
    pub answers : Answers set start
    pub first : (other : List ℤ) → q.Before other start → Answers set other → ⊥

  -- a start that is printed for a query: the first answer where all maps are tried, and else any answer
  abbrev pub IsPrintedOf : Bool → List Condition → List ℤ → Type 0
  IsPrintedOf true set start = IsFirstAnswer set start
  IsPrintedOf false set start = Answers set start

  abbrev pub IsPrinted : List Condition → List ℤ → Type 0
  IsPrinted set start = IsPrintedOf q.tries_all set start

  -- a query may be given up only where not all maps are tried
  pub record IsGivenUp (set : List Condition) : Type 0 where
    pub wide : q.tries_all ≡ false
    pub spent : q.Spent c set

  -- some run hits the candidate, and none does so free of all conditions
  pub record IsUnstable : Type 0 where
    pub start : List ℤ
    pub hit : Answers [] start
    pub none_free : NoAnswer q.conditions

  -- The set is minimal by deletion from the greatest condition to the least. Of a condition k, the query is the one
  -- with the conditions below k and the members of the set above k. A member has a start that answers its query, or is
  -- open since its query was given up; of a condition that is no member no map answers its query. IsMinimal below rest
  -- needs: needs are the members among the rest of the conditions, those behind the ones below.
  pub data IsMinimal : List Condition → List Condition → List Need → Type 0 where
    no_more : {below : List Condition} → IsMinimal below [] []
    member : {below rest : List Condition} {k : Condition} {start : List ℤ} {needs : List Need} → IsMinimal (below ++ k ∷ []) rest needs → IsPrinted (below ++ members needs) start → IsMinimal below (k ∷ rest) (shown_need k start ∷ needs)
    open_member : {below rest : List Condition} {k : Condition} {needs : List Need} → IsMinimal (below ++ k ∷ []) rest needs → IsGivenUp (below ++ members needs) → IsMinimal below (k ∷ rest) (open_need k ∷ needs)
    no_member : {below rest : List Condition} {k : Condition} {needs : List Need} → IsMinimal (below ++ k ∷ []) rest needs → NoAnswer (below ++ members needs) → IsMinimal below (k ∷ rest) needs

  -- A lawful report: the candidate is unstable, the start hits it, the set is minimal by deletion, and it suffices: no
  -- run of a map, and no execution, hits the candidate where none of it has been violated before. So the start of a
  -- member answers the query of the set without that member too.
  pub record IsLawfulReport (start : List ℤ) (needs : List Need) : Type 0 where
    pub unstable : IsUnstable
    pub hit : IsPrinted [] start
    pub minimal : IsMinimal [] q.conditions needs
    pub path_sufficient : NoAnswer (members needs)
    pub sufficient : q.Suffices c (members needs)

  -- undecided: the first query was given up; or it has no answer, and the second was given up
  pub record IsUndecidedHit : Type 0 where
    pub none_free : NoAnswer q.conditions
    pub given_up : IsGivenUp []

  abbrev pub IsLawfulPhase : Phase → Type 0
  IsLawfulPhase Free = IsGivenUp q.conditions
  IsLawfulPhase Hit = IsUndecidedHit

  -- a lawful finding: clear only where the candidate isn't unstable
  abbrev pub IsLawful : Finding → Type 0
  IsLawful Clear = IsUnstable → ⊥
  IsLawful (Unstable start needs) = IsLawfulReport start.numbers needs
  IsLawful (Undecided phase) = IsLawfulPhase phase

-- a lawful finding for each candidate, in order
abbrev pub AreLawful : Subject → List Candidate → List Finding → Type 0
AreLawful q [] [] = Unit {0}
AreLawful q [] (x ∷ xs) = ⊥
AreLawful q (c ∷ cs) [] = ⊥
AreLawful q (c ∷ cs) (x ∷ xs) = IsLawful q c x × AreLawful q cs xs

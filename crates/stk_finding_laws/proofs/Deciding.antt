-- Where each query has a first answer or none, each candidate has a lawful finding.
use Rattle.std.proofs.Common.{Bool, true, false, List, [], ◌∷◌, ◌++◌, ℤ, sym, subst, append_assoc}
use Rattle.stk_numbers.specs.declared.conditions.Candidate.{Candidate}
use Rattle.stk_numbers.specs.declared.conditions.Condition.{Condition}
use Rattle.stk_meaning.specs.declared.finding.Finding.{Finding}
use Rattle.stk_meaning.specs.declared.finding.Finding.TheVariants.{Clear, Unstable}
use Rattle.stk_meaning.specs.declared.finding.Need.{Need}
use Rattle.stk_meaning.specs.Findings.{Subject, members, shown_need, NoAnswer, IsFirstAnswer, IsPrintedOf, IsPrinted, IsUnstable, IsMinimal, no_more, member, no_member, IsLawful, AreLawful}

-- the first answer of a query, or there is none
pub data FirstOrNone (q : Subject) (c : Candidate) (set : List Condition) : Type 0 where
  an_answer : (start : List ℤ) → IsFirstAnswer q c set start → FirstOrNone q c set
  no_answer : NoAnswer q c set → FirstOrNone q c set

-- What a subject needs for each candidate to have a finding: each query has a first answer or none, and for a candidate
-- that is unstable a set that suffices in the runs suffices.
pub record IsDecided (q : Subject) : Type 0 where
  pub asked : (c : Candidate) (set : List Condition) → FirstOrNone q c set
  pub suffices : (c : Candidate) (set : List Condition) → IsUnstable q c → NoAnswer q c set → q.Suffices c set

module _ (q : Subject) (d : IsDecided q) (c : Candidate) where
  -- the first answer may be printed, whether all maps are tried or not
  printed_by : (all : Bool) (set : List Condition) (start : List ℤ) → IsFirstAnswer q c set start → IsPrintedOf q c all set start
  printed_by true set start a = a
  printed_by false set start a = a.answers

  printed : (set : List Condition) (start : List ℤ) → IsFirstAnswer q c set start → IsPrinted q c set start
  printed set start a = printed_by q.tries_all set start a

  -- the members of a set that is minimal by deletion and suffices in the runs
  record AreNeeds (below rest : List Condition) : Type 0 where
    needs : List Need
    minimal : IsMinimal q c below rest needs
    sufficient : NoAnswer q c (below ++ members needs)

  with_one : (below rest : List Condition) (k : Condition) (behind : AreNeeds (below ++ k ∷ []) rest) → FirstOrNone q c (below ++ members behind.needs) → AreNeeds below (k ∷ rest)
  with_one below rest k behind (an_answer start first) = record {
    needs = shown_need k start ∷ behind.needs;
    minimal = member behind.minimal (printed (below ++ members behind.needs) start first);
    sufficient = subst (λ (u : List Condition). NoAnswer q c u) (append_assoc below (k ∷ []) (members behind.needs)) behind.sufficient;
  }
  with_one below rest k behind (no_answer none) = record { needs = behind.needs; minimal = no_member behind.minimal none; sufficient = none }

  needs_of : (rest below : List Condition) → NoAnswer q c (below ++ rest) → AreNeeds below rest
  needs_of [] below none = record { needs = []; minimal = no_more; sufficient = none }
  needs_of (k ∷ rest) below none =
      let behind : AreNeeds (below ++ k ∷ []) rest = needs_of rest (below ++ k ∷ []) (subst (λ (u : List Condition). NoAnswer q c u) (sym (append_assoc below (k ∷ []) rest)) none) in
      with_one below rest k behind (d.asked c (below ++ members behind.needs))

  finding_by : FirstOrNone q c q.conditions → FirstOrNone q c [] → (x : Finding) × IsLawful q c x
  finding_by (an_answer start first) hit = (Clear, λ unstable. unstable.none_free start first.answers)
  finding_by (no_answer none) (no_answer dead) = (Clear, λ unstable. dead unstable.start unstable.hit)
  finding_by (no_answer none) (an_answer start first) =
      let s : AreNeeds [] q.conditions = needs_of q.conditions [] none in
      let unstable : IsUnstable q c = record { start = start; hit = first.answers; none_free = none } in (
        Unstable (record { numbers = start }) s.needs,
        record {
          unstable = unstable;
          hit = printed [] start first;
          minimal = s.minimal;
          path_sufficient = s.sufficient;
          sufficient = d.suffices c (members s.needs) unstable s.sufficient;
        },
      )

  pub finding_of : (x : Finding) × IsLawful q c x
  finding_of = finding_by (d.asked c q.conditions) (d.asked c [])

-- each candidate of a list has a finding
pub findings_of : (q : Subject) → IsDecided q → (cs : List Candidate) → (xs : List Finding) × AreLawful q cs xs
findings_of q d [] = ([], tt)
findings_of q d (c ∷ cs) =
    let x = finding_of q d c in
    let xs = findings_of q d cs in
    (x.0 ∷ xs.0, (x.1, xs.1))

-- Which finding is lawful, by the answers of its queries.
use Rattle.std.proofs.Common.{◌≡◌, Bool, true, false, List, [], ℤ, Option, Some, None, is_some, refl, sym, ap, ◌∙◌, subst}
use Rattle.std.specs.Prelude.{MatchOption}
use Rattle.std.proofs.lemmas.Bool.{true≢false}
use Rattle.stk_ctype.specs.declared.kind.IntKind.{IntKind}
use Rattle.stk_numbers.specs.declared.conditions.Candidate.{Candidate}
use Rattle.stk_numbers.specs.declared.conditions.Condition.{Condition}
use Rattle.stk_numbers.specs.declared.conditions.Inputs.{Inputs}
use Rattle.stk_meaning.specs.declared.entry.Entry.{Entry}
use Rattle.stk_meaning.specs.declared.finding.Need.{Need}
use Rattle.stk_meaning.specs.Findings.{Subject, NoAnswer, IsFirstAnswer, IsUnstable, IsLawfulReport}
use Rattle.stk_hits.specs.Subjects.{subject_of}
use Rattle.stk_guess.specs.Needed.{IsNeededSet}

-- the answer of a query
abbrev pub Asked : Subject → Candidate → List Condition → Option Inputs → Type 0
Asked q c set found = MatchOption found (NoAnswer q c set) (λ start. IsFirstAnswer q c set start.numbers)

-- a run that is free of all conditions makes the candidate clear
pub clear_by_free : (q : Subject) (c : Candidate) (found : Option Inputs) → is_some found ≡ true → Asked q c q.conditions found → IsUnstable q c → ⊥
clear_by_free q c None some asked u = true≢false (sym some)
clear_by_free q c (Some start) some asked u = u.none_free start.numbers asked.answers

-- and so does it that no run hits it
pub clear_by_none : (q : Subject) (c : Candidate) (found : Option Inputs) → found ≡ None → Asked q c [] found → IsUnstable q c → ⊥
clear_by_none q c found none asked u = subst (λ (o : Option Inputs). Asked q c [] o) none asked u.start u.hit

none_of : (q : Subject) (c : Candidate) (set : List Condition) (found : Option Inputs) → is_some found ≡ false → Asked q c set found → NoAnswer q c set
none_of q c set None some asked = asked
none_of q c set (Some start) some asked = absurd (true≢false some)

-- no run is free of all conditions
pub none_free : (q : Subject) (c : Candidate) (found : Option Inputs) → is_some found ≡ false → Asked q c q.conditions found → NoAnswer q c q.conditions
none_free q c found some asked = none_of q c q.conditions found some asked

-- else the report is lawful
pub reported : (ks : List IntKind) (runs : List (Option (List Entry))) (all : List Condition) (c : Candidate) (found : Option Inputs) (start : Inputs) (needs : List Need) → NoAnswer (subject_of ks runs all) c all → found ≡ Some start
    → Asked (subject_of ks runs all) c [] found → IsNeededSet (subject_of ks runs all) c all needs → IsLawfulReport (subject_of ks runs all) c start.numbers needs
reported ks runs all c found start needs none is asked set =
    let first : IsFirstAnswer (subject_of ks runs all) c [] start.numbers = subst (λ (o : Option Inputs). Asked (subject_of ks runs all) c [] o) is asked in
    record {
      unstable = record { start = start.numbers; hit = first.answers; none_free = none };
      hit = first;
      minimal = set.minimal;
      path_sufficient = set.sufficient;
      sufficient = tt;
    }

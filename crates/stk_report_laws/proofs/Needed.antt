-- The members of a set that is minimal by deletion.
use Rattle.std.proofs.Common.{◌≡◌, ◌∙◌, Bool, true, false, List, [], ◌∷◌, ◌++◌, ℤ, Option, Some, None, sym, ap, subst, append_assoc, inl, inr, arith}
use Rattle.std.specs.Prelude.{if◌then◌else◌, ◌==◌, ◌&&◌, ℕ}
use Rattle.stk_numbers.specs.declared.conditions.Candidate.{Candidate}
use Rattle.stk_numbers.specs.declared.conditions.Condition.{Condition}
use Rattle.stk_numbers.specs.declared.conditions.Inputs.{Inputs}
use Rattle.stk_numbers.specs.Taken.{number_of}
use Rattle.stk_meaning.specs.declared.finding.Need.{Need}
use Rattle.stk_meaning.specs.Hits.{same_condition}
use Rattle.stk_meaning.specs.Lists.{conditions}
use Rattle.stk_meaning.specs.Findings.{Subject, members, shown_need, open_need, Answers, IsPrintedOf, IsMinimal, no_more, member, open_member, no_member}
use Rattle.stk_meaning.specs.PathFindings.{function_subject}
use Rattle.stk_run_laws.specs.Visits.{IsIn}
use Rattle.stk_run_laws.specs.Listed.{ConditionBefore, IsBeforeAll, AreInOrder}
use Rattle.stk_run_laws.proofs.Lists.{conditions_in_order}
use Rattle.stk_guess.specs.Known.{AreIncluded}
use Rattle.stk_guess.proofs.Guessing.{included_same, included_behind, included_more, included_cons, answer_less}
use Rattle.stk_report_laws.specs.Reports.{without, ReportsShowTheirSets}

-- ---- inclusion

included_then : (a b c : List Condition) → AreIncluded a b → AreIncluded b c → AreIncluded a c
included_then a b c x y = record { by = λ k e. y.by k (x.by k e) }

one_without : (b : Bool) (j : Condition) (rest : List Condition) → AreIncluded (if b then rest else j ∷ rest) (j ∷ rest)
one_without true j rest = included_more j rest rest (included_same rest)
one_without false j rest = included_same (j ∷ rest)

without_head : (k j : Condition) (set : List Condition) → AreIncluded (without k (j ∷ set)) (j ∷ without k set)
without_head k j set = one_without (same_condition j k) j (without k set)

without_among : (k : Condition) (set : List Condition) → AreIncluded (without k set) set
without_among k [] = included_same []
without_among k (j ∷ set) = included_then (without k (j ∷ set)) (j ∷ without k set) (j ∷ set) (without_head k j set) (included_cons j (without k set) set (without_among k set))

same_number : (n : ℕ) → (n == n) ≡ true
same_number n = grind arith

itself : (k : Condition) → same_condition k k ≡ true
itself k = ap (λ z. z && number_of k.kind == number_of k.kind) (same_number k.node) ∙ same_number (number_of k.kind)

without_own : (k : Condition) (set : List Condition) → AreIncluded (without k (k ∷ set)) set
without_own k set = subst (λ (b : Bool). AreIncluded (if b then without k set else k ∷ without k set) set) (sym (itself k)) (without_among k set)

-- ---- what a printed start answers

answered : (q : Subject) (c : Candidate) (b : Bool) (set : List Condition) (start : List ℤ) → IsPrintedOf q c b set start → Answers q c set start
answered q c true set start p = p.answers
answered q c false set start p = p

abbrev numbers_of : Option Inputs → List ℤ
numbers_of None = []
numbers_of (Some x) = x.numbers

abbrev is_shown : Option Inputs → Bool
is_shown None = false
is_shown (Some x) = true

not_open : (k j : Condition) (start : List ℤ) → shown_need k start ≡ open_need j → true ≡ false
not_open k j start e = ap (λ (n : Need). is_shown n.shown) e

module _ (q : Subject) (c : Candidate) where
  -- the rest of the set behind one condition more
  behind_one : (k j : Condition) (below set : List Condition) (start : List ℤ) → Answers q c ((below ++ j ∷ []) ++ without k set) start → Answers q c (below ++ without k (j ∷ set)) start
  behind_one k j below set start a =
      answer_less q c (below ++ without k (j ∷ set)) (below ++ j ∷ without k set) start (included_behind below (without k (j ∷ set)) (j ∷ without k set) (without_head k j set))
      (subst (λ (xs : List Condition). Answers q c xs start) (append_assoc below (j ∷ []) (without k set)) a)

  past_one : (k j : Condition) (below set : List Condition) (start : List ℤ) → Answers q c ((below ++ j ∷ []) ++ without k set) start → Answers q c (below ++ without k set) start
  past_one k j below set start a =
      answer_less q c (below ++ without k set) (below ++ j ∷ without k set) start (included_behind below (without k set) (j ∷ without k set) (included_more j (without k set) (without k set) (included_same (without k set))))
      (subst (λ (xs : List Condition). Answers q c xs start) (append_assoc below (j ∷ []) (without k set)) a)

  own : (k j : Condition) (below set : List Condition) (start first : List ℤ) → shown_need k start ≡ shown_need j first → Answers q c (below ++ set) first → Answers q c (below ++ without k (j ∷ set)) start
  own k j below set start first e a =
      let same : k ≡ j = ap (λ (n : Need). n.condition) e in
      let begun : start ≡ first = ap (λ (n : Need). numbers_of n.shown) e in
      subst (λ (x : Condition). Answers q c (below ++ without x (j ∷ set)) start) (sym same)
      (subst (λ (xs : List ℤ). Answers q c (below ++ without j (j ∷ set)) xs) (sym begun) (answer_less q c (below ++ without j (j ∷ set)) (below ++ set) first (included_behind below (without j (j ∷ set)) set (without_own j set)) a))

  needed : (below rest : List Condition) (needs : List Need) → IsMinimal q c below rest needs → (k : Condition) (start : List ℤ) → IsIn (shown_need k start) needs → Answers q c (below ++ without k (members needs)) start
  needed below [] [] no_more k start i = absurd i
  needed below [] (n ∷ ns) x k start i = elim x [ ]
  needed below (j ∷ rest) needs (member {start = first} {needs = behind} m p) k start (inl e) = own k j below (members behind) start first e (answered q c q.tries_all (below ++ members behind) first p)
  needed below (j ∷ rest) needs (member {start = first} {needs = behind} m p) k start (inr i) = behind_one k j below (members behind) start (needed (below ++ j ∷ []) rest behind m k start i)
  needed below (j ∷ rest) needs (open_member {needs = behind} m g) k start (inl e) = let t = not_open k j start e in absurd cc
  needed below (j ∷ rest) needs (open_member {needs = behind} m g) k start (inr i) = behind_one k j below (members behind) start (needed (below ++ j ∷ []) rest behind m k start i)
  needed below (j ∷ rest) needs (no_member m none) k start i = past_one k j below (members needs) start (needed (below ++ j ∷ []) rest needs m k start i)

  listed : (below rest : List Condition) (needs : List Need) → IsMinimal q c below rest needs → (k : Condition) → IsIn k (members needs) → IsIn k rest
  listed below [] [] no_more k i = absurd i
  listed below [] (n ∷ ns) x k i = elim x [ ]
  listed below (j ∷ rest) needs (member {needs = behind} m p) k (inl e) = inl e
  listed below (j ∷ rest) needs (member {needs = behind} m p) k (inr i) = inr (listed (below ++ j ∷ []) rest behind m k i)
  listed below (j ∷ rest) needs (open_member {needs = behind} m g) k (inl e) = inl e
  listed below (j ∷ rest) needs (open_member {needs = behind} m g) k (inr i) = inr (listed (below ++ j ∷ []) rest behind m k i)
  listed below (j ∷ rest) needs (no_member m none) k i = inr (listed (below ++ j ∷ []) rest needs m k i)

  before_members : (x : Condition) (below rest : List Condition) (needs : List Need) → IsMinimal q c below rest needs → IsBeforeAll ConditionBefore x rest → IsBeforeAll ConditionBefore x (members needs)
  before_members x below [] [] no_more h = tt
  before_members x below [] (n ∷ ns) y h = elim y [ ]
  before_members x below (j ∷ rest) needs (member {needs = behind} m p) h = (h.0, before_members x (below ++ j ∷ []) rest behind m h.1)
  before_members x below (j ∷ rest) needs (open_member {needs = behind} m g) h = (h.0, before_members x (below ++ j ∷ []) rest behind m h.1)
  before_members x below (j ∷ rest) needs (no_member m none) h = before_members x (below ++ j ∷ []) rest needs m h.1

  ascending : (below rest : List Condition) (needs : List Need) → IsMinimal q c below rest needs → AreInOrder ConditionBefore rest → AreInOrder ConditionBefore (members needs)
  ascending below [] [] no_more h = tt
  ascending below [] (n ∷ ns) y h = elim y [ ]
  ascending below (j ∷ rest) needs (member {needs = behind} m p) h = (before_members j (below ++ j ∷ []) rest behind m h.0, ascending (below ++ j ∷ []) rest behind m h.1)
  ascending below (j ∷ rest) needs (open_member {needs = behind} m g) h = (before_members j (below ++ j ∷ []) rest behind m h.0, ascending (below ++ j ∷ []) rest behind m h.1)
  ascending below (j ∷ rest) needs (no_member m none) h = ascending (below ++ j ∷ []) rest needs m h.1

pub shown_sets : ReportsShowTheirSets
shown_sets ty taken f numbered c start needs report =
    let q = function_subject ty taken f (λ x set. Unit {0}) in
    record {
      listed = listed q c [] (conditions ty taken f) needs report.minimal;
      ascending = ascending q c [] (conditions ty taken f) needs report.minimal (conditions_in_order ty taken f numbered);
      needed = λ k s i. let a = needed q c [] (conditions ty taken f) needs report.minimal k s i in record { valid = a.valid; hits = a.hits };
    }

-- Deletion over known starts, from one member to the next.
use Rattle.std.proofs.Common.{◌≡◌, ℕ, zero, suc, ◌+◌, ◌-◌, ◌<◌, ◌≤◌, ◌⊎◌, inl, inr, List, [], ◌∷◌, ◌++◌, length, take, get_or, reverse, refl, sym, ap, ◌∙◌, subst, arith, Option, Some, None}
use Rattle.std.proofs.lemmas.Bool.{cases_lt}
use Rattle.stk_numbers.specs.declared.conditions.Candidate.{Candidate}
use Rattle.stk_numbers.specs.declared.conditions.Condition.{Condition}
use Rattle.stk_numbers.specs.declared.conditions.Inputs.{Inputs}
use Rattle.stk_meaning.specs.declared.finding.Need.{Need}
use Rattle.stk_meaning.specs.Findings.{Subject, members, shown_need, NoAnswer, IsFirstAnswer}
use Rattle.stk_guess.specs.Known.{AreIncluded}
use Rattle.stk_guess.proofs.Guessing.{included_same, included_more, included_cons, none_more}
use Rattle.stk_guess.proofs.Deletion.{IsNeededBehind, no_condition, keep, drop_one}
use Rattle.stk_wide_judge.specs.declared.guessing.FoundMember.{FoundMember}
use Rattle.stk_wide_judge.specs.Wide.{AskedFunction}
use Rattle.stk_wide_judge.specs.Starts.{known_of, KnownAnswer}
use Rattle.stk_wide_judge.specs.Guesses.{IsBetween, IsLastMember}

behind_included : (front xs : List Condition) → AreIncluded xs (front ++ xs)
behind_included [] xs = included_same xs
behind_included (k ∷ ks) xs = included_more k xs (ks ++ xs) (behind_included ks xs)

-- fewer conditions below
fewer_included : (all xs : List Condition) (j i : ℕ) → j ≤ i → AreIncluded (take j all ++ xs) (take i all ++ xs)
fewer_included all xs zero i less = behind_included (take i all) xs
fewer_included all xs (suc j) zero less = absurd (omega arith)
fewer_included [] xs (suc j) (suc i) less = included_same xs
fewer_included (k ∷ ks) xs (suc j) (suc i) less = included_cons k (take j ks ++ xs) (take i ks ++ xs) (fewer_included ks xs j i (omega arith))

module _ (q : Subject) (c : Candidate) where
  -- where no start answers the query for the conditions below an index, none behind it is a member
  pub skipped : (all : List Condition) (i j : ℕ) (needs : List Need) → j ≤ i → i ≤ length all → IsNeededBehind q c all i needs → NoAnswer q c (take j all ++ members (reverse needs)) → IsNeededBehind q c all j needs
  skipped all zero j needs less within n none = subst (λ (k : ℕ). IsNeededBehind q c all k needs) (let e : 0 ≡ j = omega arith in e) n
  skipped all (suc i) j needs less within n none = elim (cases_lt j (suc i)) [
    | inl below ↦ (
        let e : suc i - 1 ≡ i = omega arith in
        let here : NoAnswer q c (take i all ++ members (reverse needs)) = none_more q c (take j all ++ members (reverse needs)) (take i all ++ members (reverse needs)) (fewer_included all (members (reverse needs)) j i (omega arith)) none in
        let down : IsNeededBehind q c all (suc i - 1) needs = drop_one q c all (suc i) needs no_condition (omega arith) within n (subst (λ (k : ℕ). NoAnswer q c (take k all ++ members (reverse needs))) (sym e) here) in
        skipped all i j needs (omega arith) (omega arith) (subst (λ (k : ℕ). IsNeededBehind q c all k needs) e down) none)
    | inr same ↦ subst (λ (k : ℕ). IsNeededBehind q c all k needs) (let e : suc i ≡ j = omega arith in e) n
  ]

module _ (a : AskedFunction) (starts : List Inputs) (c : Candidate) (all : List Condition) where
  -- one member more
  pub member_found : (i : ℕ) (needs now : List Need) (m : FoundMember) (found : Option FoundMember) → i ≤ length all → m.index < i → IsNeededBehind (known_of a starts) c all i needs → found ≡ Some m → IsLastMember a starts c all needs found
      → now ≡ needs ++ shown_need (get_or all m.index no_condition) m.start.numbers ∷ [] → IsNeededBehind (known_of a starts) c all m.index now
  member_found i needs now m found within below n is last is_now =
      let between : IsBetween a starts c all needs m.index (m.index + 1) m.start = subst (λ (o : Option FoundMember). IsLastMember a starts c all needs o) is last in
      let e : m.index + 1 - 1 ≡ m.index = omega arith in
      let here : IsNeededBehind (known_of a starts) c all (m.index + 1) needs = skipped (known_of a starts) c all i (m.index + 1) needs (omega arith) within n between.none in
      let first : IsFirstAnswer (known_of a starts) c (take (m.index + 1 - 1) all ++ members (reverse needs)) m.start.numbers = subst (λ (k : ℕ). IsFirstAnswer (known_of a starts) c (take k all ++ members (reverse needs)) m.start.numbers) (sym e) between.first in
      let kept : IsNeededBehind (known_of a starts) c all (m.index + 1 - 1) (needs ++ shown_need (get_or all (m.index + 1 - 1) no_condition) m.start.numbers ∷ []) = keep (known_of a starts) c all (m.index + 1) needs no_condition m.start.numbers (omega arith) (omega arith) here first in
      subst (λ (u : List Need). IsNeededBehind (known_of a starts) c all m.index u) (sym is_now)
      (subst (λ (k : ℕ). IsNeededBehind (known_of a starts) c all k (needs ++ shown_need (get_or all k no_condition) m.start.numbers ∷ [])) e kept)

  -- no member is left
  pub no_member_left : (i : ℕ) (needs : List Need) (found : Option FoundMember) → i ≤ length all → IsNeededBehind (known_of a starts) c all i needs → found ≡ None → IsLastMember a starts c all needs found → IsNeededBehind (known_of a starts) c all 0 needs
  no_member_left i needs found within n is last = skipped (known_of a starts) c all i 0 needs (omega arith) within n (subst (λ (o : Option FoundMember). IsLastMember a starts c all needs o) is last)

  -- where no known start answers the query for the members, no condition is one
  pub none_below : (needs : List Need) (found : Option Inputs) → found ≡ None → KnownAnswer a starts c (take 0 all ++ members (reverse needs)) found → NoAnswer (known_of a starts) c (members (reverse needs))
  none_below needs found is h = subst (λ (o : Option Inputs). KnownAnswer a starts c (members (reverse needs)) o) is h

  pub some_below : (needs : List Need) (low high : ℕ) (found : Option Inputs) (start : Inputs) → found ≡ Some start → KnownAnswer a starts c (take low all ++ members (reverse needs)) found → NoAnswer (known_of a starts) c (take high all ++ members (reverse needs)) → IsBetween a starts c all needs low high start
  some_below needs low high found start is h none = record {
    first = subst (λ (o : Option Inputs). KnownAnswer a starts c (take low all ++ members (reverse needs)) o) is h;
    none = none;
  }

  pub none_above : (needs : List Need) (low middle high : ℕ) (start : Inputs) (found : Option Inputs) → found ≡ None → KnownAnswer a starts c (take middle all ++ members (reverse needs)) found → IsBetween a starts c all needs low high start → IsBetween a starts c all needs low middle start
  none_above needs low middle high start found is h between = record {
    first = between.first;
    none = subst (λ (o : Option Inputs). KnownAnswer a starts c (take middle all ++ members (reverse needs)) o) is h;
  }

module _ (a : AskedFunction) (starts : List Inputs) (c : Candidate) (all : List Condition) where
  last_of : (i : ℕ) (needs shown : List Need) (found : Option FoundMember) → IsNeededBehind (known_of a starts) c all i needs → shown ≡ needs → (NoAnswer (known_of a starts) c (take i all ++ members (reverse shown)) → IsLastMember a starts c all shown found) → IsLastMember a starts c all needs found
  last_of i needs shown found n same h =
      subst (λ (u : List Need). IsLastMember a starts c all u found) same (h (subst (λ (u : List Need). NoAnswer (known_of a starts) c (take i all ++ members (reverse u))) (sym same) n.sufficient))

  pub next_member : (i : ℕ) (needs shown now : List Need) (m : FoundMember) (found : Option FoundMember) → i ≤ length all → m.index < i → IsNeededBehind (known_of a starts) c all i needs → shown ≡ needs → found ≡ Some m
      → (NoAnswer (known_of a starts) c (take i all ++ members (reverse shown)) → IsLastMember a starts c all shown found) → now ≡ needs ++ shown_need (get_or all m.index no_condition) m.start.numbers ∷ [] → IsNeededBehind (known_of a starts) c all m.index now
  next_member i needs shown now m found within below n same is h is_now = member_found a starts c all i needs now m found within below n is (last_of i needs shown found n same h) is_now

  pub last_done : (i : ℕ) (needs shown : List Need) (found : Option FoundMember) → i ≤ length all → IsNeededBehind (known_of a starts) c all i needs → shown ≡ needs → found ≡ None
      → (NoAnswer (known_of a starts) c (take i all ++ members (reverse shown)) → IsLastMember a starts c all shown found) → IsNeededBehind (known_of a starts) c all 0 needs
  last_done i needs shown found within n same is h = no_member_left a starts c all i needs found within n is (last_of i needs shown found n same h)

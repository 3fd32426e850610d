-- Deletion from the greatest condition to the least: what is known of those behind an index, and how it goes on.
use Rattle.std.proofs.Common.{◌≡◌, ℕ, ◌-◌, ◌<◌, ◌≤◌, List, [], ◌∷◌, ◌++◌, length, take, drop, get_or, reverse, sym, ap, ◌∙◌, subst, arith, append_assoc, zero, suc, drop-cons}
use Rattle.std.proofs.Math.Seq.{take-suc, take-length, drop-length}
use Rattle.std.proofs.lemmas.List.{reverse-append, append-nil}
use Rattle.std.specs.Prelude.{ℤ, Option, Some, None, MatchOption}
use Rattle.stk_numbers.specs.declared.conditions.Candidate.{Candidate}
use Rattle.stk_numbers.specs.declared.conditions.Condition.{Condition}
use Rattle.stk_numbers.specs.declared.conditions.UbKind.TheVariants.{Overflow}
use Rattle.stk_meaning.specs.declared.finding.Need.{Need}
use Rattle.stk_numbers.specs.declared.conditions.Inputs.{Inputs}
use Rattle.stk_meaning.specs.Findings.{Subject, members, shown_need, NoAnswer, IsPrinted, IsMinimal, no_more, member, no_member}
use Rattle.stk_guess.specs.Needed.{IsNeededSet}

-- The members among the conditions from an index on, the greatest first: they are minimal, and with the conditions
-- below the index they suffice.
pub record IsNeededBehind (q : Subject) (c : Candidate) (all : List Condition) (i : ℕ) (needs : List Need) : Type 0 where
  pub minimal : IsMinimal q c (take i all) (drop i all) (reverse needs)
  pub sufficient : NoAnswer q c (take i all ++ members (reverse needs))

-- what stands for a condition that isn't there
abbrev pub no_condition : Condition
no_condition = record { node = 0; kind = Overflow }

module _ (q : Subject) (c : Candidate) where
  -- behind all conditions none is needed yet
  pub none_needed : (all : List Condition) → NoAnswer q c all → IsNeededBehind q c all (length all) []
  none_needed all none = record {
    minimal = subst (λ (u : List Condition). IsMinimal q c (take (length all) all) u []) (sym (drop-length all)) no_more;
    sufficient = subst (λ (u : List Condition). NoAnswer q c u) (sym (append-nil (take (length all) all) ∙ take-length all)) none;
  }

  -- the condition before the index stands between those below and those behind
  record IsAt (all : List Condition) (i : ℕ) (k : Condition) : Type 0 where
    before : take i all ≡ take (i - 1) all ++ k ∷ []
    behind : drop (i - 1) all ≡ k ∷ drop i all

  at : (all : List Condition) (i : ℕ) (d : Condition) → 0 < i → i ≤ length all → IsAt all i (get_or all (i - 1) d)
  at all zero d positive within = absurd (omega arith)
  at all (suc i) d positive within =
      let e : suc i - 1 ≡ i = omega arith in
      let h : i < length all = omega arith in
      record {
        before = rw e (take-suc all i d h);
        behind = rw e (drop-cons all i d h);
      }

  regroup : (below : List Condition) (k : Condition) (behind : List Condition) → NoAnswer q c ((below ++ k ∷ []) ++ behind) → NoAnswer q c (below ++ k ∷ behind)
  regroup below k behind none = subst (λ (u : List Condition). NoAnswer q c u) (append_assoc below (k ∷ []) behind) none

  minimal_at : (all : List Condition) (i : ℕ) (k : Condition) (needs : List Need) → IsAt all i k → IsMinimal q c (take i all) (drop i all) needs → IsMinimal q c (take (i - 1) all ++ k ∷ []) (drop i all) needs
  minimal_at all i k needs p m = subst (λ (u : List Condition). IsMinimal q c u (drop i all) needs) p.before m

  -- a condition whose query has an answer is a member, shown by the first one
  pub keep : (all : List Condition) (i : ℕ) (needs : List Need) (d : Condition) (start : List ℤ) → 0 < i → i ≤ length all → IsNeededBehind q c all i needs → IsPrinted q c (take (i - 1) all ++ members (reverse needs)) start → IsNeededBehind q c all (i - 1) (needs ++ shown_need (get_or all (i - 1) d) start ∷ [])
  keep all i needs d start positive within n first =
      let k : Condition = get_or all (i - 1) d in
      let p = at all i d positive within in
      let turned : reverse (needs ++ shown_need k start ∷ []) ≡ shown_need k start ∷ reverse needs = reverse-append needs (shown_need k start ∷ []) in
      record {
        minimal =
            subst (λ (u : List Need). IsMinimal q c (take (i - 1) all) (drop (i - 1) all) u) (sym turned)
            (subst (λ (u : List Condition). IsMinimal q c (take (i - 1) all) u (shown_need k start ∷ reverse needs)) (sym p.behind)
            (member (minimal_at all i k (reverse needs) p n.minimal) first));
        sufficient =
            subst (λ (u : List Need). NoAnswer q c (take (i - 1) all ++ members u)) (sym turned)
            (regroup (take (i - 1) all) k (members (reverse needs))
            (subst (λ (u : List Condition). NoAnswer q c (u ++ members (reverse needs))) p.before n.sufficient));
      }

  -- a condition whose query has no answer goes
  pub drop_one : (all : List Condition) (i : ℕ) (needs : List Need) (d : Condition) → 0 < i → i ≤ length all → IsNeededBehind q c all i needs → NoAnswer q c (take (i - 1) all ++ members (reverse needs)) → IsNeededBehind q c all (i - 1) needs
  drop_one all i needs d positive within n none =
      let k : Condition = get_or all (i - 1) d in
      let p = at all i d positive within in
      record {
        minimal =
            subst (λ (u : List Condition). IsMinimal q c (take (i - 1) all) u (reverse needs)) (sym p.behind)
            (no_member (minimal_at all i k (reverse needs) p n.minimal) none);
        sufficient = none;
      }

  -- once all conditions are asked for, the set is found
  pub all_asked : (all : List Condition) (i : ℕ) (needs : List Need) → i ≤ 0 → IsNeededBehind q c all i needs → IsNeededSet q c all (reverse needs)
  all_asked all zero needs none n = record { minimal = n.minimal; sufficient = n.sufficient }
  all_asked all (suc i) needs none n = absurd (omega arith)

  -- the answer of a query
  abbrev pub Asked : List Condition → Option Inputs → Type 0
  Asked set found = MatchOption found (NoAnswer q c set) (λ start. IsPrinted q c set start.numbers)

  pub after_answer : (all : List Condition) (i : ℕ) (needs shown now : List Need) (seen set : List Condition) (d : Condition) (found : Option Inputs) (start : Inputs) → 0 < i → i ≤ length all → IsNeededBehind q c all i needs → shown ≡ needs → seen ≡ set → set ≡ take (i - 1) all ++ members (reverse shown) → Asked seen found → found ≡ Some start → now ≡ needs ++ shown_need (get_or all (i - 1) d) start.numbers ∷ [] → IsNeededBehind q c all (i - 1) now
  after_answer all i needs shown now seen set d found start positive within n same is_seen is_set asked is_found is_now =
      let is : seen ≡ take (i - 1) all ++ members (reverse needs) = is_seen ∙ (is_set ∙ ap (λ (u : List Need). take (i - 1) all ++ members (reverse u)) same) in
      let first : IsPrinted q c seen start.numbers = subst (λ (o : Option Inputs). Asked seen o) is_found asked in
      subst (λ (u : List Need). IsNeededBehind q c all (i - 1) u) (sym is_now)
      (keep all i needs d start.numbers positive within n (subst (λ (u : List Condition). IsPrinted q c u start.numbers) is first))

  pub after_none : (all : List Condition) (i : ℕ) (needs shown now : List Need) (seen set : List Condition) (d : Condition) (found : Option Inputs) → 0 < i → i ≤ length all → IsNeededBehind q c all i needs → shown ≡ needs → seen ≡ set → set ≡ take (i - 1) all ++ members (reverse shown) → Asked seen found → found ≡ None → now ≡ needs → IsNeededBehind q c all (i - 1) now
  after_none all i needs shown now seen set d found positive within n same is_seen is_set asked is_found is_now =
      let is : seen ≡ take (i - 1) all ++ members (reverse needs) = is_seen ∙ (is_set ∙ ap (λ (u : List Need). take (i - 1) all ++ members (reverse u)) same) in
      let none : NoAnswer q c seen = subst (λ (o : Option Inputs). Asked seen o) is_found asked in
      subst (λ (u : List Need). IsNeededBehind q c all (i - 1) u) (sym is_now)
      (drop_one all i needs d positive within n (subst (λ (u : List Condition). NoAnswer q c u) is none))

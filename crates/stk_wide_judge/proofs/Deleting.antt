-- Deletion, with open members, from the greatest condition to the least.
use Rattle.std.proofs.Common.{◌≡◌, ℕ, ◌-◌, ◌<◌, ◌≤◌, List, [], ◌∷◌, ◌++◌, length, take, drop, get_or, reverse, refl, sym, ap, ◌∙◌, subst, arith, append_assoc, zero, suc, drop-cons}
use Rattle.std.proofs.Math.Seq.{take-suc}
use Rattle.std.proofs.lemmas.List.{reverse-append}
use Rattle.std.specs.Prelude.{ℤ}
use Rattle.stk_numbers.specs.declared.conditions.Candidate.{Candidate}
use Rattle.stk_numbers.specs.declared.conditions.Condition.{Condition}
use Rattle.stk_meaning.specs.declared.finding.Need.{Need}
use Rattle.stk_meaning.specs.Findings.{Subject, members, shown_need, open_need, NoAnswer, IsGivenUp, IsMinimal, open_member}
use Rattle.stk_guess.specs.Needed.{IsNeededSet}
use Rattle.stk_guess.proofs.Deletion.{IsNeededBehind, keep, drop_one, all_asked}
use Rattle.stk_wide_judge.specs.declared.asking.QueryAnswer.{QueryAnswer}
use Rattle.stk_wide_judge.specs.declared.asking.QueryAnswer.TheVariants.{Start, Never, GivenUp}
use Rattle.stk_wide_judge.specs.Wide.{AskedFunction, asked_subject}
use Rattle.stk_wide_judge.specs.Answers.{IsAnswer, with_answer}

module _ (q : Subject) (c : Candidate) where
  -- the condition before the index stands between those below and those behind
  record IsAt (all : List Condition) (i : ℕ) (k : Condition) : Type 0 where
    before : take i all ≡ take (i - 1) all ++ k ∷ []
    behind : drop (i - 1) all ≡ k ∷ drop i all

  at : (all : List Condition) (i : ℕ) (d : Condition) → 0 < i → i ≤ length all → IsAt all i (get_or all (i - 1) d)
  at all zero d positive within = absurd (omega arith)
  at all (suc i) d positive within =
      let e : suc i - 1 ≡ i = omega arith in
      let h : i < length all = omega arith in
      record {
        before = rw e (take-suc all i d h);
        behind = rw e (drop-cons all i d h);
      }

  -- a condition whose query was given up is an open member
  pub keep_open : (all : List Condition) (i : ℕ) (needs : List Need) (d : Condition) → 0 < i → i ≤ length all → IsNeededBehind q c all i needs → IsGivenUp q c (take (i - 1) all ++ members (reverse needs)) → IsNeededBehind q c all (i - 1) (needs ++ open_need (get_or all (i - 1) d) ∷ [])
  keep_open all i needs d positive within n given =
      let k : Condition = get_or all (i - 1) d in
      let p = at all i d positive within in
      let turned : reverse (needs ++ open_need k ∷ []) ≡ open_need k ∷ reverse needs = reverse-append needs (open_need k ∷ []) in
      let minimal : IsMinimal q c (take (i - 1) all ++ k ∷ []) (drop i all) (reverse needs) = subst (λ (u : List Condition). IsMinimal q c u (drop i all) (reverse needs)) p.before n.minimal in
      let sufficient : NoAnswer q c ((take (i - 1) all ++ k ∷ []) ++ members (reverse needs)) = subst (λ (u : List Condition). NoAnswer q c (u ++ members (reverse needs))) p.before n.sufficient in
      record {
        minimal =
            subst (λ (u : List Need). IsMinimal q c (take (i - 1) all) (drop (i - 1) all) u) (sym turned)
            (subst (λ (u : List Condition). IsMinimal q c (take (i - 1) all) u (open_need k ∷ reverse needs)) (sym p.behind)
            (open_member minimal given));
        sufficient =
            subst (λ (u : List Need). NoAnswer q c (take (i - 1) all ++ members u)) (sym turned)
            (subst (λ (u : List Condition). NoAnswer q c u) (append_assoc (take (i - 1) all) (k ∷ []) (members (reverse needs))) sufficient);
      }

module _ (a : AskedFunction) (spent : Candidate → List Condition → Type 0) (c : Candidate) where
  -- one query answered more
  pub one_more : (all : List Condition) (i : ℕ) (needs : List Need) (d : Condition) (x : QueryAnswer) → 0 < i → i ≤ length all → IsNeededBehind (asked_subject a spent) c all i needs
      → IsAnswer (asked_subject a spent) c (take (i - 1) all ++ members (reverse needs)) x → IsNeededBehind (asked_subject a spent) c all (i - 1) (with_answer needs (get_or all (i - 1) d) x)
  one_more all i needs d (Start start) positive within n h = keep (asked_subject a spent) c all i needs d start.numbers positive within n h
  one_more all i needs d Never positive within n h = drop_one (asked_subject a spent) c all i needs d positive within n h
  one_more all i needs d GivenUp positive within n h = keep_open (asked_subject a spent) c all i needs d positive within n (record { wide = refl; spent = h })

  pub after_answer : (all : List Condition) (i : ℕ) (needs shown now : List Need) (set seen : List Condition) (d : Condition) (x : QueryAnswer) → 0 < i → i ≤ length all → IsNeededBehind (asked_subject a spent) c all i needs → shown ≡ needs
      → seen ≡ set → set ≡ take (i - 1) all ++ members (reverse shown) → IsAnswer (asked_subject a spent) c seen x → now ≡ with_answer needs (get_or all (i - 1) d) x → IsNeededBehind (asked_subject a spent) c all (i - 1) now
  after_answer all i needs shown now set seen d x positive within n same is_seen is_set h is_now =
      let is : seen ≡ take (i - 1) all ++ members (reverse needs) = is_seen ∙ (is_set ∙ ap (λ (u : List Need). take (i - 1) all ++ members (reverse u)) same) in
      subst (λ (u : List Need). IsNeededBehind (asked_subject a spent) c all (i - 1) u) (sym is_now)
      (one_more all i needs d x positive within n (subst (λ (u : List Condition). IsAnswer (asked_subject a spent) c u x) is h))

  -- all queries are answered
  pub needed_set : (all : List Condition) (i : ℕ) (needs now : List Need) → i ≤ 0 → IsNeededBehind (asked_subject a spent) c all i needs → now ≡ reverse needs → IsNeededSet (asked_subject a spent) c all now
  needed_set all i needs now none n is = subst (λ (u : List Need). IsNeededSet (asked_subject a spent) c all u) (sym is) (all_asked (asked_subject a spent) c all i needs none n)

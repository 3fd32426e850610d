-- What follows where the query for all conditions, or for none, was given up; and findings whose marks are counted.
use Rattle.std.proofs.Common.{◌≡◌, ℕ, ◌≤◌, List, [], ◌∷◌, length, refl, sym, ap, ◌∙◌, subst, arith}
use Rattle.stk_base.specs.Causes.{Rose}
use Rattle.stk_numbers.specs.declared.conditions.Candidate.{Candidate}
use Rattle.stk_numbers.specs.declared.conditions.Condition.{Condition}
use Rattle.stk_numbers.specs.declared.conditions.Inputs.{Inputs}
use Rattle.stk_meaning.specs.declared.finding.Finding.{Finding}
use Rattle.stk_meaning.specs.declared.finding.Finding.TheVariants.{Clear, Undecided}
use Rattle.stk_meaning.specs.declared.finding.Need.{Need}
use Rattle.stk_meaning.specs.declared.finding.Phase.TheVariants.{Free}
use Rattle.stk_meaning.specs.Lists.{conditions}
use Rattle.stk_meaning.specs.Findings.{Subject, members, IsMinimal, no_more, member, open_member, no_member}
use Rattle.stk_guess.specs.Known.{IsGuess}
use Rattle.stk_wide_judge.specs.declared.asking.QueryAnswer.{QueryAnswer}
use Rattle.stk_wide_judge.specs.declared.asking.QueryAnswer.TheVariants.{Start, Never, GivenUp}
use Rattle.stk_wide_judge.specs.Wide.{AskedFunction, asked_subject, never_spent}
use Rattle.stk_wide_judge.specs.Answers.{IsAnswer, IsCounted, IsLater}
use Rattle.stk_wide_judge.specs.Rounds.{IsDecided, IsCountedFinding, finding_after}
use Rattle.stk_wide_judge.proofs.Later.{answer_about, lawful_decided, lawful_earlier, none_about, none_for}
use Rattle.stk_wide_judge.proofs.Settling.{clear_free, undecided_free}
use Rattle.stk_spent_queries.specs.Marks.{marks, AreCounted}
use Rattle.stk_spent_queries.proofs.Counting.{counted_none, counted_one, counted_later, counted_earlier}

module _ (q : Subject) (c : Candidate) where
  -- members are some of the conditions
  few_needed : {below rest : List Condition} {needs : List Need} → IsMinimal q c below rest needs → length (members needs) ≤ length rest
  few_needed no_more = omega arith
  few_needed (member m p) = let e = few_needed m in omega (arith, e)
  few_needed (open_member m g) = let e = few_needed m in omega (arith, e)
  few_needed (no_member m none) = let e = few_needed m in omega (arith, e)

  -- and all of them where they are as many
  pub all_needed : {below rest : List Condition} {needs : List Need} → IsMinimal q c below rest needs → length rest ≤ length (members needs) → members needs ≡ rest
  all_needed no_more full = refl
  all_needed (member {k = k} m p) full = ap (λ ks. k ∷ ks) (all_needed m (omega (arith, full)))
  all_needed (open_member {k = k} m g) full = ap (λ ks. k ∷ ks) (all_needed m (omega (arith, full)))
  all_needed (no_member m none) full = absurd (let e = few_needed m in omega (arith, full, e))

module _ (a : AskedFunction) (c : Candidate) where
  -- a finding in which nothing is given up
  pub decided_counted : (spent : Candidate → List Condition → Type 0) (before now : ℕ) (x : Finding) → before ≤ now → IsDecided a c x → IsCountedFinding a spent before now c x
  decided_counted spent before now x up d = record {
    lawful = lawful_decided a spent c x d.lawful;
    counted = subst (AreCounted before now) (sym d.decided) (counted_none before now up);
  }

  -- a finding of a later state is one of the state before
  pub found_earlier : (b d : AskedFunction) (was is : Candidate → List Condition → Type 0) (before middle now : ℕ) (x : Finding) → IsLater b d was is before middle → IsCountedFinding a is middle now c x → IsCountedFinding a was before now c x
  found_earlier b d was is before middle now x l f = record {
    lawful = lawful_earlier a was is c x l.spent f.lawful;
    counted = counted_earlier before middle now (marks x) l.counted f.counted;
  }

module _ (a : AskedFunction) (spent : Candidate → List Condition → Type 0) (before now : ℕ) (c : Candidate) where
  counted_up : (x : QueryAnswer) → x ≡ GivenUp → IsCounted before now x → AreCounted before now 1
  counted_up x is k = counted_one before now (subst (IsCounted before now) is k)

  -- the query for all conditions was given up
  pub given_up_free : (b : AskedFunction) (all : List Condition) (x : QueryAnswer) → b ≡ a → all ≡ conditions a.typing a.without a.tree → x ≡ GivenUp → IsAnswer (asked_subject b spent) c all x → IsCounted before now x → IsCountedFinding a spent before now c (Undecided Free)
  given_up_free b all x about same is h k = record {
    lawful = undecided_free a spent c all x same is (answer_about a b spent c all x about h);
    counted = counted_up x is k;
  }

  -- and so was that for a guess of as many
  pub given_up_guess : (b : AskedFunction) (starts : List Inputs) (all set : List Condition) (needs : List Need) (x : QueryAnswer) → b ≡ a → all ≡ conditions a.typing a.without a.tree → IsGuess (asked_subject a never_spent) starts c needs → set ≡ members needs → length set ≡ length all → x ≡ GivenUp
      → IsAnswer (asked_subject b spent) c set x → IsCounted before now x → IsCountedFinding a spent before now c (Undecided Free)
  given_up_guess b starts all set needs x about same g is_set full is h k =
      let e : set ≡ conditions a.typing a.without a.tree = is_set ∙ all_needed _ c g.minimal (omega (arith, sym full ∙ ap length is_set, ap length same)) in
      given_up_free b set x about e is h k

-- an answer that gives up a query for no condition
pub spent_nothing : (b : AskedFunction) (spent : Candidate → List Condition → Type 0) (c : Candidate) (set : List Condition) (x : QueryAnswer) → length set ≡ 0 → x ≡ GivenUp → IsAnswer (asked_subject b spent) c set x → spent c []
spent_nothing b spent c [] x empty is h = subst (λ (y : QueryAnswer). IsAnswer (asked_subject b spent) c [] y) is h
spent_nothing b spent c (k ∷ ks) x empty is h = absurd (omega (arith, empty))

-- the query for all conditions, where that for none was given up before
module _ (a : AskedFunction) (spent is : Candidate → List Condition → Type 0) (before middle now : ℕ) (c : Candidate) (earlier : (c : Candidate) (set : List Condition) → is c set → spent c set) (hit : spent c []) (low : before ≤ middle) (rose : Rose before middle) (up : middle ≤ now)
    (all : List Condition) (same : all ≡ conditions a.typing a.without a.tree) where
  one_counted : AreCounted before now 1
  one_counted = counted_later before middle now 1 low up (counted_one before middle rose)

  pub found_after : (x : QueryAnswer) → IsAnswer (asked_subject a is) c all x → IsCountedFinding a spent before now c (finding_after x)
  found_after (Start start) h = record {
    lawful = lawful_earlier a spent is c Clear earlier (clear_free a is c all (Start start) start same refl h);
    counted = counted_none before now (omega (arith, low, up));
  }
  found_after GivenUp h = record {
    lawful = lawful_earlier a spent is c (Undecided Free) earlier (undecided_free a is c all GivenUp same refl h);
    counted = one_counted;
  }
  found_after Never h = record {
    lawful = record {
      none_free = none_for a spent never_spent c (conditions a.typing a.without a.tree) (none_about a a is c (conditions a.typing a.without a.tree) all Never refl same refl h);
      given_up = record { wide = refl; spent = hit };
    };
    counted = one_counted;
  }

-- What a goal says of all events, and of those that matter to it.
use Rattle.std.proofs.Common.{◌≡◌, ℕ, ◌+◌, Bool, true, false, not, ◌&&◌, ◌||◌, List, [], ◌∷◌, cond, refl, sym, ap, subst, ◌∙◌, nat_eq, if◌then◌else◌, arith}
use Rattle.std.specs.Prelude.{filter}
use Rattle.stk_numbers.specs.declared.conditions.Condition.{Condition}
use Rattle.stk_meaning.specs.Hits.{has}
use Rattle.stk_terms.specs.declared.term.TermId.{TermId}
use Rattle.stk_values.specs.declared.walked.Step.{Step}
use Rattle.stk_values.specs.declared.walked.Step.TheVariants.{Broken, Hit}
use Rattle.stk_values.specs.Walks.{ListedEvent, is_violated, is_hit, event_of, test_of, EachTest, Says}
use Rattle.stk_symbols.specs.Goals.{is_hit_free, goal_charge, is_hit_first, full_charges}
use Rattle.stk_symbols.specs.Matters.{matters, steps_that_matter, OthersDoNotMatter}

module _ (set : List Condition) (c : ℕ) where
  abbrev pub those : List ListedEvent → List ListedEvent
  those t = filter (matters set c) t

  abbrev pub steps_of : List (Step TermId) → List (Step TermId)
  steps_of xs = steps_that_matter set c xs

  -- ---- the first event that matters tells

  violated_first : (m : Bool) (k : Condition) (u : List ListedEvent) (h : Bool) → is_hit_first u ≡ h → is_hit_first (cond m (is_violated k ∷ u) u) ≡ (not m && h)
  violated_first true k u h e = refl
  violated_first false k u h e = e

  hit_first : (m : Bool) (j : ℕ) (u : List ListedEvent) (h : Bool) → is_hit_first u ≡ h → is_hit_first (cond m (is_hit j ∷ u) u) ≡ (m || h)
  hit_first true j u h e = refl
  hit_first false j u h e = e

  pub first_that_matters : (events : List ListedEvent) → is_hit_first (those events) ≡ is_hit_free set c events
  first_that_matters [] = refl
  first_that_matters (is_violated k ∷ t) = violated_first (has set k) k (those t) (is_hit_free set c t) (first_that_matters t)
  first_that_matters (is_hit j ∷ t) = hit_first (nat_eq j c) j (those t) (is_hit_free set c t) (first_that_matters t)

  full_broken : (m : Bool) (k : Condition) (v : TermId) (u : List (Step TermId)) (n : ℕ) → full_charges u ≡ n → full_charges (cond m (Broken k v ∷ u) u) ≡ (if m then 3 else 0) + n
  full_broken true k v u n e = ap (λ x. 3 + x) e
  full_broken false k v u n e = omega (arith, e)

  full_hit : (m : Bool) (j : ℕ) (v : TermId) (u : List (Step TermId)) (n : ℕ) → full_charges u ≡ n → full_charges (cond m (Hit j v ∷ u) u) ≡ (if m then 6 else 0) + n
  full_hit true j v u n e = ap (λ x. 6 + x) e
  full_hit false j v u n e = omega (arith, e)

  pub full_is_charge : (xs : List (Step TermId)) → full_charges (steps_of xs) ≡ goal_charge set c xs
  full_is_charge [] = refl
  full_is_charge (Broken k v ∷ xs) = full_broken (has set k) k v (steps_of xs) (goal_charge set c xs) (full_is_charge xs)
  full_is_charge (Hit j v ∷ xs) = full_hit (nat_eq j c) j v (steps_of xs) (goal_charge set c xs) (full_is_charge xs)

  -- ---- what the steps that matter say

  pub tests_that_matter : (P : TermId → Type 0) (xs : List (Step TermId)) → EachTest P xs → EachTest P (steps_of xs)
  tests_that_matter P [] h = tt
  tests_that_matter P (x ∷ xs) h = tests_more P x (steps_of xs) (matters set c (event_of x)) h.0 (tests_that_matter P xs h.1)
    where
      tests_more : (P : TermId → Type 0) (x : Step TermId) (u : List (Step TermId)) (m : Bool) → P (test_of x) → EachTest P u → EachTest P (cond m (x ∷ u) u)
      tests_more P x u true p h = (p, h)
      tests_more P x u false p h = h

  one_event : (x : ListedEvent) (m : Bool) (u : List ListedEvent) → matters set c x ≡ m → those (x ∷ u) ≡ cond m (x ∷ those u) (those u)
  one_event x m u is = ap (λ k. cond k (x ∷ those u) (those u)) is

  says_more : (shows : TermId → Bool → Type 0) (x : Step TermId) (left : List (Step TermId)) (m : Bool) → matters set c (event_of x) ≡ m → (t : List ListedEvent) (b : Bool) (u : List ListedEvent) → shows (test_of x) b → Says shows left (those u) → t ≡ (if b then event_of x ∷ u else u)
      → Says shows (cond m (x ∷ left) left) (those t)
  says_more shows x left true is t true u p s e = (true, those u, p, s, ap those e ∙ one_event (event_of x) true u is)
  says_more shows x left true is t false u p s e = (false, those u, p, s, ap those e)
  says_more shows x left false is t true u p s e = subst (Says shows left) (sym (ap those e ∙ one_event (event_of x) false u is)) s
  says_more shows x left false is t false u p s e = subst (Says shows left) (sym (ap those e)) s

  pub says_that_matter : (shows : TermId → Bool → Type 0) (xs : List (Step TermId)) (t : List ListedEvent) → Says shows xs t → Says shows (steps_of xs) (those t)
  says_that_matter shows [] t h = ap those h
  says_that_matter shows (x ∷ xs) t h = says_more shows x (steps_of xs) (matters set c (event_of x)) refl t h.0 h.1 h.2 (says_that_matter shows xs h.1 h.3) h.4

  -- ---- the law

  said_violated : (m : Bool) (k : Condition) (u t : List ListedEvent) → has set k ≡ m → is_hit_free set c u ≡ is_hit_free set c t → is_hit_free set c (cond m (is_violated k ∷ u) u) ≡ (not (has set k) && is_hit_free set c t)
  said_violated true k u t is e = ap (λ b. not (has set k) && b) e
  said_violated false k u t is e = e ∙ ap (λ b. not b && is_hit_free set c t) (sym is)

  said_hit : (m : Bool) (j : ℕ) (u t : List ListedEvent) → nat_eq j c ≡ m → is_hit_free set c u ≡ is_hit_free set c t → is_hit_free set c (cond m (is_hit j ∷ u) u) ≡ (nat_eq j c || is_hit_free set c t)
  said_hit true j u t is e = ap (λ b. nat_eq j c || b) e
  said_hit false j u t is e = e ∙ ap (λ b. b || is_hit_free set c t) (sym is)

  said : (events : List ListedEvent) → is_hit_free set c (those events) ≡ is_hit_free set c events
  said [] = refl
  said (is_violated k ∷ t) = said_violated (has set k) k (those t) t refl (said t)
  said (is_hit j ∷ t) = said_hit (nat_eq j c) j (those t) t refl (said t)

  charged_broken : (m : Bool) (k : Condition) (v : TermId) (u : List (Step TermId)) (n : ℕ) → has set k ≡ m → goal_charge set c u ≡ n → goal_charge set c (cond m (Broken k v ∷ u) u) ≡ (if has set k then 3 else 0) + n
  charged_broken true k v u n is e = ap (λ x. (if has set k then 3 else 0) + x) e
  charged_broken false k v u n is e = (let z : goal_charge set c u ≡ 0 + n = omega (arith, e) in z) ∙ ap (λ b. (if b then 3 else 0) + n) (sym is)

  charged_hit : (m : Bool) (j : ℕ) (v : TermId) (u : List (Step TermId)) (n : ℕ) → nat_eq j c ≡ m → goal_charge set c u ≡ n → goal_charge set c (cond m (Hit j v ∷ u) u) ≡ (if nat_eq j c then 6 else 0) + n
  charged_hit true j v u n is e = ap (λ x. (if nat_eq j c then 6 else 0) + x) e
  charged_hit false j v u n is e = (let z : goal_charge set c u ≡ 0 + n = omega (arith, e) in z) ∙ ap (λ b. (if b then 6 else 0) + n) (sym is)

  charged : (xs : List (Step TermId)) → goal_charge set c (steps_of xs) ≡ goal_charge set c xs
  charged [] = refl
  charged (Broken k v ∷ xs) = charged_broken (has set k) k v (steps_of xs) (goal_charge set c xs) refl (charged xs)
  charged (Hit j v ∷ xs) = charged_hit (nat_eq j c) j v (steps_of xs) (goal_charge set c xs) refl (charged xs)

  pub others_do_not_matter : OthersDoNotMatter set c
  others_do_not_matter = record { said = said; charged = charged }

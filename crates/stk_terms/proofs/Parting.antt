-- The parts of a term: the test tells them, and they are closed.
use Rattle.std.proofs.Common.{◌≡◌, ℕ, zero, suc, ◌<◌, ◌≤◌, Bool, true, false, ◌||◌, ◌⊎◌, inl, inr, List, [], ◌∷◌, length, refl, sym, subst, arith, nat_eq}
use Rattle.std.specs.List.{list_any}
use Rattle.std.proofs.lemmas.Bool.{eqb-true, eq-eqb}
use Rattle.stk_terms.specs.declared.term.TermId.{TermId}
use Rattle.stk_terms.specs.Terms.{Stored, term_at, nth, child}
use Rattle.stk_terms.specs.Fitting.{IsSound}
use Rattle.stk_terms.specs.Parts.{IsPart, Whole, Within, reaches, is_part}
use Rattle.stk_terms.specs.Cost.{IsClosed}
use Rattle.stk_terms.proofs.Reading.{child_below}

pub or_first : (x y : Bool) → x ≡ true → (x || y) ≡ true
or_first true y h = refl
or_first false y h = absurd (cc)

pub or_second : (x y : Bool) → y ≡ true → (x || y) ≡ true
or_second true y h = refl
or_second false y h = h

pub or_cases : (x y : Bool) → (x || y) ≡ true → (x ≡ true) ⊎ (y ≡ true)
or_cases true y h = inl refl
or_cases false y h = inr h

-- some argument passes the test, or one that passes
any_nth : (test : TermId → Bool) (args : List TermId) → list_any test args ≡ true → (k : ℕ) × (k < length args) × (test (record { 0 = nth args k }) ≡ true)
any_nth test [] h = absurd (cc)
any_nth test (a ∷ args) h = by (λ q. any_nth test args q) (or_cases (test a) (list_any test args) h)
  where
    by : (list_any test args ≡ true → (k : ℕ) × (k < length args) × (test (record { 0 = nth args k }) ≡ true)) → ((test a ≡ true) ⊎ (list_any test args ≡ true)) → (k : ℕ) × (k < length (a ∷ args)) × (test (record { 0 = nth (a ∷ args) k }) ≡ true)
    by f (inl q) = (0, omega arith, q)
    by f (inr q) = let r = f q in (suc r.0, (let l = r.1 in omega (arith, l)), r.2)

nth_any : (test : TermId → Bool) (args : List TermId) (k : ℕ) → k < length args → test (record { 0 = nth args k }) ≡ true → list_any test args ≡ true
nth_any test [] k h q = absurd (omega arith)
nth_any test (a ∷ args) zero h q = or_first (test a) (list_any test args) q
nth_any test (a ∷ args) (suc k) h q = or_second (test a) (list_any test args) (nth_any test args k (omega arith) q)

-- what is reached is a part
pub reached : (n : ℕ) (s : Stored) (i j : ℕ) → reaches n s i j ≡ true → IsPart s j i
reached zero s i j h = Whole i (eqb-true i j h)
reached (suc n) s i j h = by (λ k q. reached n s (child s i k) j q) (or_cases (nat_eq i j) (list_any (λ a. reaches n s a.0 j) (term_at s i).args) h)
  where
    by : ((k : ℕ) → reaches n s (child s i k) j ≡ true → IsPart s j (child s i k)) → ((nat_eq i j ≡ true) ⊎ (list_any (λ a. reaches n s a.0 j) (term_at s i).args ≡ true)) → IsPart s j i
    by f (inl q) = Whole i (eqb-true i j q)
    by f (inr q) = let r = any_nth (λ a. reaches n s a.0 j) (term_at s i).args q in Within i r.0 r.1 (f r.0 r.2)

itself : (n : ℕ) (s : Stored) (i j : ℕ) → i ≡ j → reaches n s i j ≡ true
itself zero s i j e = eq-eqb i j e
itself (suc n) s i j e = or_first (nat_eq i j) (list_any (λ a. reaches n s a.0 j) (term_at s i).args) (eq-eqb i j e)

module _ (s : Stored) (sound : IsSound s) where
  within : (j n i : ℕ) → IsPart s j i → i ≤ n → i < length s.terms → reaches n s i j ≡ true
  within j n i (Whole _ e) h l = itself n s i j e
  within j zero i (Within _ k m p) h l = let b : child s i k < i = child_below s sound i k l m in absurd (omega (arith, b, h))
  within j (suc n) i (Within _ k m p) h l =
      let b : child s i k < i = child_below s sound i k l m in
      or_second (nat_eq i j) (list_any (λ a. reaches n s a.0 j) (term_at s i).args) (nth_any (λ a. reaches n s a.0 j) (term_at s i).args k m (within j n (child s i k) p (omega (arith, b, h)) (omega (arith, b, l))))

  -- each part passes the test
  pub told : (i j : ℕ) → i < length s.terms → IsPart s j i → is_part s i j ≡ true
  told i j l p = within j i i p (omega arith) l

  pub part_below : (j i : ℕ) → IsPart s j i → i < length s.terms → j ≤ i
  part_below j _ (Whole i e) l = omega (arith, e)
  part_below j _ (Within i k m p) l =
      let b : child s i k < i = child_below s sound i k l m in
      let c : j ≤ child s i k = part_below j (child s i k) p (omega (arith, b, l)) in
      omega (arith, b, c)

  -- an argument of a part is a part
  pub goes_on : (j k i : ℕ) → IsPart s j i → k < length (term_at s j).args → IsPart s (child s j k) i
  goes_on j k i (Whole _ e) m = subst (λ u. IsPart s (child s j k) u) (sym e) (Within j k m (Whole (child s j k) refl))
  goes_on j k i (Within _ u l p) m = Within i u l (goes_on j k (child s i u) p m)

  pub parts_closed : (i : ℕ) → i < length s.terms → IsClosed s (is_part s i)
  parts_closed i l = record { closed = λ j k h m. told i (child s j k) l (goes_on j k i (reached i s i j h) m) }

  pub has_itself : (i : ℕ) → is_part s i i ≡ true
  has_itself i = itself i s i i refl

-- a closed choice that has a term has its parts
pub part_chosen : (s : Stored) (chosen : ℕ → Bool) → IsClosed s chosen → (j i : ℕ) → IsPart s j i → chosen i ≡ true → chosen j ≡ true
part_chosen s chosen closed j _ (Whole i e) h = subst (λ k. chosen k ≡ true) e h
part_chosen s chosen closed j _ (Within i k l p) h = part_chosen s chosen closed j _ p (closed.closed i k h l)

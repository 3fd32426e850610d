-- The steps at ascending places.
use Rattle.std.proofs.Common.{◌≡◌, ℕ, zero, suc, ◌+◌, ◌<◌, ◌≤◌, Bool, true, false, ◌||◌, List, [], ◌∷◌, ◌++◌, length, cond, take, drop, get_or, refl, sym, ap, subst, ◌∙◌, arith, nat_eq, drop-cons}
use Rattle.std.specs.Prelude.{filter}
use Rattle.std.specs.List.{All, list_any}
use Rattle.std.specs.List.Sorted.{IsNonDecreasing}
use Rattle.std.proofs.lemmas.Bool.{true≢false}
use Rattle.std.proofs.lemmas.List.{length-map}
use Rattle.std.proofs.lemmas.List.Sorted.{IsNonDecreasingBy-drop}
use Rattle.stk_terms.specs.declared.term.TermId.{TermId}
use Rattle.stk_values.specs.declared.walked.Step.{Step}
use Rattle.stk_values.specs.Walks.{ListedEvent, event_of}
use Rattle.stk_symbols.specs.Matters.{passes_at, ArePlaces, events_of}
use Rattle.stk_symbols.proofs.Placed.{nat_one, passes_within}

nat_same : (a b : ℕ) → nat_eq a b ≡ true → a ≡ b
nat_same a b e = grind arith

apart : (a b : ℕ) → (a ≡ b → ⊥) → nat_eq a b ≡ false
apart a b f = grind arith

-- ---- what is listed

any_behind : (test : ℕ → Bool) (i : ℕ) (xs : List ℕ) → list_any test (drop i xs) ≡ true → list_any test xs ≡ true
any_behind test zero xs h = h
any_behind test (suc i) [] h = h
any_behind test (suc i) (x ∷ xs) h = any_first (test x) (list_any test xs) (any_behind test i xs h)
  where
    any_first : (a b : Bool) → b ≡ true → (a || b) ≡ true
    any_first true b e = refl
    any_first false b e = e

at_least_first : (m q x : ℕ) (xs : List ℕ) (b : Bool) → nat_eq q x ≡ b → m ≤ x → (list_any (nat_eq q) xs ≡ true → m ≤ q) → (b || list_any (nat_eq q) xs) ≡ true → m ≤ q
at_least_first m q x xs true is low behind h = let e = nat_same q x is in omega (arith, e, low)
at_least_first m q x xs false is low behind h = behind h

-- what is listed is no less than what all are no less than
at_least : (m q : ℕ) (xs : List ℕ) → ((j : ℕ) (d : ℕ) → j < length xs → m ≤ get_or xs j d) → list_any (nat_eq q) xs ≡ true → m ≤ q
at_least m q [] low h = absurd (true≢false (sym h))
at_least m q (x ∷ xs) low h = at_least_first m q x xs (nat_eq q x) refl (low 0 0 (omega arith)) (at_least m q xs (λ j d less. low (suc j) d (omega (arith, less)))) h

pub drop_more : {X : Type 0} (xs : List X) (i : ℕ) (d : X) → i < length xs → drop i xs ≡ get_or xs i d ∷ drop (i + 1) xs
drop_more xs i d h = let e : suc i ≡ i + 1 = omega arith in drop-cons xs i d h ∙ ap (λ n. get_or xs i d ∷ drop n xs) e

pub nothing_left : {X : Type 0} (xs : List X) (i : ℕ) → length xs ≤ i → drop i xs ≡ []
nothing_left [] zero h = refl
nothing_left [] (suc i) h = refl
nothing_left (x ∷ xs) zero h = absurd (omega (arith, h))
nothing_left (x ∷ xs) (suc i) h = nothing_left xs i (omega (arith, h))

listed_first : (i : ℕ) (places : List ℕ) (d : ℕ) → i < length places → list_any (nat_eq (get_or places i d)) places ≡ true
listed_first i places d h =
    let p : ℕ = get_or places i d in
    any_behind (nat_eq p) i places (ap (list_any (nat_eq p)) (drop_more places i d h) ∙ ap (λ b. b || list_any (nat_eq p) (drop (i + 1) places)) (nat_one p))

-- places where an event passes a test are within the list
pub places_within : (test : ListedEvent → Bool) (steps : List (Step TermId)) (places : List ℕ) → ArePlaces test (events_of steps) places → All (λ q. q < length steps) places
places_within test steps places h i d less =
    let p = get_or places i d in
    let there : passes_at test (events_of steps) p ≡ true = sym (h p) ∙ listed_first i places d less in
    subst (λ n. p < n) (length-map steps (λ x. event_of x)) (passes_within test (events_of steps) p there)

module _ (test : ListedEvent → Bool) where
  abbrev pub passing : List (Step TermId) → List (Step TermId)
  passing steps = filter (λ x. test (event_of x)) steps

  take_nothing : (n : ℕ) → take {A = Step TermId} n [] ≡ []
  take_nothing zero = refl
  take_nothing (suc n) = refl

  -- steps none of which passes add nothing
  none_between : (steps : List (Step TermId)) (a b : ℕ) → a ≤ b → ((q : ℕ) → a ≤ q → q < b → passes_at test (events_of steps) q ≡ false) → passing (take b steps) ≡ passing (take a steps)
  none_between [] a b h none = ap passing (take_nothing b ∙ sym (take_nothing a))
  none_between (x ∷ xs) zero zero h none = refl
  none_between (x ∷ xs) zero (suc b) h none = ap (λ m. cond m (x ∷ passing (take b xs)) (passing (take b xs))) (none 0 (omega arith) (omega arith)) ∙ none_between xs zero b (omega arith) (λ q low less. none (suc q) (omega arith) (omega (arith, less)))
  none_between (x ∷ xs) (suc a) zero h none = absurd (omega (arith, h))
  none_between (x ∷ xs) (suc a) (suc b) h none = ap (λ l. cond (test (event_of x)) (x ∷ l) l) (none_between xs a b (omega (arith, h)) (λ q low less. none (suc q) (omega (arith, low)) (omega (arith, less))))

  -- a step that passes is added
  one_passes : (steps : List (Step TermId)) (p : ℕ) (d : Step TermId) → passes_at test (events_of steps) p ≡ true → passing (take (suc p) steps) ≡ passing (take p steps) ++ get_or steps p d ∷ []
  one_passes [] p d h = absurd (true≢false (sym h))
  one_passes (x ∷ xs) zero d h = ap (λ m. cond m (x ∷ []) []) h
  one_passes (x ∷ xs) (suc p) d h = ap (λ l. cond (test (event_of x)) (x ∷ l) l) (one_passes xs p d h) ∙ joined (test (event_of x)) (passing (take p xs)) (get_or xs p d ∷ [])
    where
      joined : (m : Bool) (us vs : List (Step TermId)) → cond m (x ∷ us ++ vs) (us ++ vs) ≡ cond m (x ∷ us) us ++ vs
      joined true us vs = refl
      joined false us vs = refl

  module _ (steps : List (Step TermId)) (places : List ℕ) where
    -- the steps below an end are picked, and the places of the others that pass are still to come
    pub record Picked (list : List (Step TermId)) (i end : ℕ) : Type 0 where
      pub taken : list ≡ passing (take end steps)
      pub left : (q : ℕ) → end ≤ q → passes_at test (events_of steps) q ≡ true → list_any (nat_eq q) (drop i places) ≡ true

    pub picking_begins : ArePlaces test (events_of steps) places → Picked [] 0 0
    picking_begins h = record { taken = refl; left = λ q low there. h q ∙ there }

    -- a place that was passed
    pub passed : (list : List (Step TermId)) (i end : ℕ) (d : ℕ) → i < length places → get_or places i d < end → Picked list i end → Picked list (i + 1) end
    passed list i end d less low k = record {
      taken = k.taken;
      left = λ q above there.
          let e : list_any (nat_eq q) (get_or places i d ∷ drop (i + 1) places) ≡ true = subst (λ l. list_any (nat_eq q) l ≡ true) (drop_more places i d less) (k.left q above there) in
          subst (λ b. (b || list_any (nat_eq q) (drop (i + 1) places)) ≡ true) (apart q (get_or places i d) (λ same. absurd (omega (arith, same, above, low)))) e;
    }

    pub next_place : (list now : List (Step TermId)) (i end p e : ℕ) (d : Step TermId) → ArePlaces test (events_of steps) places → IsNonDecreasing places → i < length places → p ≡ get_or places i e → end ≤ p → Picked list i end → now ≡ list ++ get_or steps p d ∷ [] → Picked now (i + 1) (p + 1)
    next_place list now i end p e d are rising less is low k pushed = record {
      taken =
          pushed ∙ (ap (λ l. l ++ get_or steps p d ∷ []) (k.taken ∙ sym (none_between steps end p low none))
          ∙ (sym (one_passes steps p d here) ∙ ap (λ n. passing (take n steps)) more));
      left = λ q above there.
          let listed : list_any (nat_eq q) (get_or places i e ∷ drop (i + 1) places) ≡ true = subst (λ l. list_any (nat_eq q) l ≡ true) (drop_more places i e less) (k.left q (omega (arith, above, low)) there) in
          subst (λ b. (b || list_any (nat_eq q) (drop (i + 1) places)) ≡ true) (apart q (get_or places i e) (λ same. absurd (omega (arith, same, above, is)))) listed;
    }
      where
        more : suc p ≡ p + 1
        more = omega arith

        here : passes_at test (events_of steps) p ≡ true
        here = subst (λ n. passes_at test (events_of steps) n ≡ true) (sym is) (sym (are (get_or places i e)) ∙ listed_first i places e less)

        least : (q : ℕ) → list_any (nat_eq q) (drop i places) ≡ true → p ≤ q
        least q listed = at_least p q (drop i places) rising_on listed
          where
            rising_on : (j : ℕ) (d : ℕ) → j < length (drop i places) → p ≤ get_or (drop i places) j d
            rising_on j d below =
                let up = IsNonDecreasingBy-drop (λ x. x) i places rising 0 j d (omega arith) below in
                let first : get_or (drop i places) 0 d ≡ p = ap (λ l. get_or l 0 d) (drop_more places i e less) ∙ sym is in
                omega (arith, up, first)

        none_if : (q : ℕ) (b : Bool) → passes_at test (events_of steps) q ≡ b → end ≤ q → q < p → passes_at test (events_of steps) q ≡ false
        none_if q true is above below = absurd (let l = least q (k.left q above is) in omega (arith, l, below))
        none_if q false is above below = is

        none : (q : ℕ) → end ≤ q → q < p → passes_at test (events_of steps) q ≡ false
        none q above below = none_if q (passes_at test (events_of steps) q) refl above below

    pub picking_ends : (list : List (Step TermId)) (i end : ℕ) → length places ≤ i → end ≤ length steps → Picked list i end → list ≡ passing steps
    picking_ends list i end done within k = k.taken ∙ (sym (none_between steps end (length steps) within none) ∙ ap passing (all steps))
      where
        all : (xs : List (Step TermId)) → take (length xs) xs ≡ xs
        all [] = refl
        all (x ∷ xs) = ap (λ l. x ∷ l) (all xs)

        none_if : (q : ℕ) (b : Bool) → passes_at test (events_of steps) q ≡ b → end ≤ q → passes_at test (events_of steps) q ≡ false
        none_if q true is above = absurd (true≢false (sym (sym (ap (list_any (nat_eq q)) (nothing_left places i done)) ∙ k.left q above is)))
        none_if q false is above = is

        none : (q : ℕ) → end ≤ q → q < length steps → passes_at test (events_of steps) q ≡ false
        none q above below = none_if q (passes_at test (events_of steps) q) refl above

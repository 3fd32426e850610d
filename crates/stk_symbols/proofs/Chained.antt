-- The steps that matter, found by an index.
use Rattle.std.proofs.Common.{◌≡◌, ℕ, zero, suc, ◌+◌, ◌<◌, ◌≤◌, inl, inr, Bool, true, false, not, ◌&&◌, ◌||◌, List, [], ◌∷◌, ◌++◌, length, cond, get_or, Option, Some, None, refl, sym, ap, subst, ◌∙◌, arith, nat_eq, nat_lt, if◌then◌else◌}
use Rattle.std.specs.List.{list_any}
use Rattle.std.proofs.lemmas.Bool.{cases_lt}
use Rattle.std.proofs.lemmas.List.{length-map}
use Rattle.stk_numbers.specs.declared.conditions.Condition.{Condition}
use Rattle.stk_terms.specs.declared.term.TermId.{TermId}
use Rattle.stk_values.specs.declared.walked.Step.{Step}
use Rattle.stk_values.specs.Walks.{ListedEvent, is_violated, is_hit, event_of}
use Rattle.indexmap.specs.IndexMap.{get}
use Rattle.stk_symbols.specs.declared.step_index.ConditionKey.{ConditionKey}
use Rattle.stk_symbols.specs.declared.step_index.StepIndex.{StepIndex}
use Rattle.stk_symbols.specs.Matters.{matters, same_event, passes_at, last_place, ArePlaces, events_of, condition_key, same_key, HasLastPlaces, IsIndexOf}
use Rattle.stk_symbols.proofs.Placed.{nat_one, last_alike, last_more, stands_as, passes_alike, passes_either, passes_never, passes_beyond, is_last, none_stands}

-- ---- one event more in an index

-- one last place more, of what is under these keys
one_last : (events : List ListedEvent) (event other : ListedEvent) (place : ℕ) (key : Bool) (old now : Option ℕ) → passes_at (same_event event) events place ≡ true → key ≡ same_event event other → now ≡ cond key (Some place) old → old ≡ last_place events other place → now ≡ last_place events other (place + 1)
one_last events event other place key old now there same is before =
    let e : suc place ≡ place + 1 = omega arith in
    is ∙ ((λ i. cond (same i) (Some place) (before i)) ∙ (sym (last_more events event other place there) ∙ ap (last_place events other) e))

-- no other event stands there
other_last : (events : List ListedEvent) (event other : ListedEvent) (place : ℕ) (now : Option ℕ) → passes_at (same_event event) events place ≡ true → same_event event other ≡ false → now ≡ last_place events other place → now ≡ last_place events other (place + 1)
other_last events event other place now there apart is = one_last events event other place false now now there (sym apart) refl is

pub noted_violation : (old now : StepIndex) (events : List ListedEvent) (event : ListedEvent) (k : Condition) (key : ConditionKey) (place : ℕ) → event ≡ is_violated k → key ≡ condition_key k → ((q : ConditionKey) → get same_key now.violations q ≡ cond (same_key key q) (Some place) (get same_key old.violations q)) → now.hits ≡ old.hits
    → HasLastPlaces old events place → passes_at (same_event event) events place ≡ true → HasLastPlaces now events (place + 1)
noted_violation old now events event k key place is key_is updated others h there =
    let here : passes_at (same_event (is_violated k)) events place ≡ true = subst (λ e. passes_at (same_event e) events place ≡ true) is there in
    record {
      violations = λ j. one_last events (is_violated k) (is_violated j) place (same_key key (condition_key j)) (get same_key old.violations (condition_key j)) (get same_key now.violations (condition_key j)) here (ap (λ q. same_key q (condition_key j)) key_is) (updated (condition_key j)) (h.violations j);
      hits = λ j. other_last events (is_violated k) (is_hit j) place (get nat_eq now.hits j) here refl (ap (λ m. get nat_eq m j) others ∙ h.hits j);
    }

pub noted_hit : (old now : StepIndex) (events : List ListedEvent) (event : ListedEvent) (c place : ℕ) → event ≡ is_hit c → ((q : ℕ) → get nat_eq now.hits q ≡ cond (nat_eq c q) (Some place) (get nat_eq old.hits q)) → now.violations ≡ old.violations
    → HasLastPlaces old events place → passes_at (same_event event) events place ≡ true → HasLastPlaces now events (place + 1)
noted_hit old now events event c place is updated others h there =
    let here : passes_at (same_event (is_hit c)) events place ≡ true = subst (λ e. passes_at (same_event e) events place ≡ true) is there in
    record {
      violations = λ k. other_last events (is_hit c) (is_violated k) place (get same_key now.violations (condition_key k)) here refl (ap (λ m. get same_key m (condition_key k)) others ∙ h.violations k);
      hits = λ j. one_last events (is_hit c) (is_hit j) place (nat_eq c j) (get nat_eq old.hits j) (get nat_eq now.hits j) here refl (updated j) (h.hits j);
    }

pub more_earlier : (events : List ListedEvent) (event : ListedEvent) (old now : List (Option ℕ)) (end : ℕ) → length old ≡ end → now ≡ old ++ last_place events event end ∷ [] → passes_at (same_event event) events end ≡ true
    → ((q : ℕ) (e : ListedEvent) → q < end → passes_at (same_event e) events q ≡ true → get_or old q None ≡ last_place events e q) → (q : ℕ) (e : ListedEvent) → q < suc end → passes_at (same_event e) events q ≡ true → get_or now q None ≡ last_place events e q
more_earlier events event old now end count is stands before q e less there = elim (cases_lt q end) [
  | inl below ↦ ap (λ l. get_or l q None) is ∙ (in_front old (last_place events event end) q (omega (arith, count, below)) ∙ before q e below there)
  | inr above ↦ (
      let at : q ≡ end = omega (arith, less, above) in
      let same : same_event event e ≡ true = sym (stands_as event e events end stands) ∙ subst (λ n. passes_at (same_event e) events n ≡ true) at there in
      ap (λ l. get_or l q None) is ∙ (at_end old (last_place events event end) q (at ∙ sym count) ∙ (last_alike events event e end same ∙ ap (last_place events e) (sym at))))
]
  where
    in_front : (xs : List (Option ℕ)) (y : Option ℕ) (q : ℕ) → q < length xs → get_or (xs ++ y ∷ []) q None ≡ get_or xs q None
    in_front [] y q h = absurd (omega (arith, h))
    in_front (x ∷ xs) y zero h = refl
    in_front (x ∷ xs) y (suc q) h = in_front xs y q (omega (arith, h))

    at_end : (xs : List (Option ℕ)) (y : Option ℕ) (q : ℕ) → q ≡ length xs → get_or (xs ++ y ∷ []) q None ≡ y
    at_end [] y zero h = refl
    at_end [] y (suc q) h = absurd (omega (arith, h))
    at_end (x ∷ xs) y zero h = absurd (omega (arith, h))
    at_end (x ∷ xs) y (suc q) h = at_end xs y q (omega (arith, h))

pub index_more : (old now : StepIndex) (events : List ListedEvent) (event : ListedEvent) (place end : ℕ) (before : Option ℕ) → place ≡ length old.earlier.items → before ≡ last_place events event end → (HasLastPlaces old events place → passes_at (same_event event) events place ≡ true → HasLastPlaces now events (place + 1))
    → now.earlier.items ≡ old.earlier.items ++ before ∷ [] → IsIndexOf old events end → passes_at (same_event event) events end ≡ true → IsIndexOf now events (end + 1)
index_more old now events event place end before at is last pushed h stands =
    let same : place ≡ end = at ∙ h.count in
    let e : suc end ≡ end + 1 = omega arith in
    let p : now.earlier.items ≡ old.earlier.items ++ last_place events event end ∷ [] = pushed ∙ ap (λ b. old.earlier.items ++ b ∷ []) is in
    record {
      last = subst (λ n. HasLastPlaces now events (n + 1)) same (last (subst (HasLastPlaces old events) (sym same) h.last) (subst (λ n. passes_at (same_event event) events n ≡ true) (sym same) stands));
      count = ap length p ∙ (longer old.earlier.items (last_place events event end) ∙ ap (λ n. n + 1) h.count);
      earlier = λ q e2 less there. more_earlier events event old.earlier.items now.earlier.items end h.count p stands h.earlier q e2 (omega (arith, less)) there;
    }
  where
    longer : (xs : List (Option ℕ)) (y : Option ℕ) → length (xs ++ y ∷ []) ≡ length xs + 1
    longer [] y = refl
    longer (x ∷ xs) y = let h = longer xs y in omega (arith, h)

-- ---- places of one event

-- where to go on below a place
abbrev pub end_of : Option ℕ → ℕ
end_of None = 0
end_of (Some p) = suc p

or_same : (b : Bool) → (b || false) ≡ b
or_same true = refl
or_same false = refl

or_joined : (a b d : Bool) → ((a || b) || d) ≡ (a || (b || d))
or_joined true b d = refl
or_joined false b d = refl

and_never : (b : Bool) → (b && false) ≡ false
and_never true = refl
and_never false = refl

and_always : (b : Bool) → (b && true) ≡ b
and_always true = refl
and_always false = refl

pub any_more : (test : ℕ → Bool) (xs : List ℕ) (p : ℕ) → list_any test (xs ++ p ∷ []) ≡ (list_any test xs || test p)
any_more test [] p = or_same (test p)
any_more test (x ∷ xs) p = ap (λ b. test x || b) (any_more test xs p) ∙ sym (or_joined (test x) (list_any test xs) (test p))

less_true : (a b : ℕ) → a < b → nat_lt a b ≡ true
less_true a b h = grind (arith, h)

less_false : (a b : ℕ) → b ≤ a → nat_lt a b ≡ false
less_false a b h = grind (arith, h)

apart : (a b : ℕ) → (a ≡ b → ⊥) → nat_eq a b ≡ false
apart a b f = grind arith

module _ (events : List ListedEvent) (e : ListedEvent) where
  abbrev stands : ℕ → Bool
  stands q = passes_at (same_event e) events q

  -- the place that is next to be listed is the last one below
  pub record IsNext (at : Option ℕ) (n : ℕ) : Type 0 where
    pub last : at ≡ last_place events e (end_of at)
    pub within : end_of at ≤ n
    pub none : (q : ℕ) → end_of at ≤ q → q < n → stands q ≡ false

  pub is_next : (at : Option ℕ) (n : ℕ) → at ≡ last_place events e n → IsNext at n
  is_next None n h = record { last = refl; within = omega arith; none = λ q low less. none_stands events e n q (sym h) less }
  is_next (Some p) n h =
      let l = is_last events e n p (sym h) in
      record {
        last = ap (λ b. if b then Some p else last_place events e p) (sym l.stands);
        within = (let b = l.below in omega (arith, b));
        none = λ q low less. l.none q (omega (arith, low)) less;
      }

  -- what is listed so far
  pub record Listing (old now : List ℕ) (at : Option ℕ) : Type 0 where
    pub last : at ≡ last_place events e (end_of at)
    pub within : end_of at ≤ length events
    pub listed : (q : ℕ) → list_any (nat_eq q) now ≡ (list_any (nat_eq q) old || (stands q && not (nat_lt q (end_of at))))

  none_left : (at : Option ℕ) → IsNext at (length events) → (q : ℕ) → (stands q && not (nat_lt q (end_of at))) ≡ false
  none_left at h q = elim (cases_lt q (end_of at)) [
    | inl below ↦ ap (λ b. stands q && not b) (less_true q (end_of at) below) ∙ and_never (stands q)
    | inr above ↦ (elim (cases_lt q (length events)) [
      | inl inside ↦ ap (λ b. b && not (nat_lt q (end_of at))) (h.none q (omega (arith, above)) inside)
      | inr outside ↦ ap (λ b. b && not (nat_lt q (end_of at))) (passes_beyond (same_event e) events q (omega (arith, outside)))
    ])
  ]

  pub listing_begins : (old : List ℕ) (at : Option ℕ) → at ≡ last_place events e (length events) → Listing old old at
  listing_begins old at h =
      let next = is_next at (length events) h in
      record {
        last = next.last;
        within = next.within;
        listed = λ q. sym (ap (λ b. list_any (nat_eq q) old || b) (none_left at next q) ∙ or_same (list_any (nat_eq q) old));
      }

  -- one place more
  one_place : (p : ℕ) (at : Option ℕ) → stands p ≡ true → IsNext at p → (q : ℕ) → ((stands q && not (nat_lt q (suc p))) || nat_eq q p) ≡ (stands q && not (nat_lt q (end_of at)))
  one_place p at here next q = elim (cases_lt q p) [
    | inl below ↦ (
        ap (λ b. (stands q && not b) || nat_eq q p) (less_true q (suc p) (omega (arith, below)))
        ∙ (ap (λ b. (stands q && false) || b) (apart q p (λ same. absurd (omega (arith, same, below))))
        ∙ (or_same (stands q && false) ∙ (and_never (stands q) ∙ sym (before below)))))
    | inr above ↦ (elim (cases_lt p q) [
      | inl behind ↦ (
          ap (λ b. (stands q && not b) || nat_eq q p) (less_false q (suc p) (omega (arith, behind)))
          ∙ (ap (λ b. (stands q && true) || b) (apart q p (λ same. absurd (omega (arith, same, behind))))
          ∙ (or_same (stands q && true) ∙ ap (λ b. stands q && not b) (sym (less_false q (end_of at) (omega (arith, behind, next.within)))))))
      | inr same ↦ (
          let at_p : p ≡ q = omega (arith, above, same) in
          subst (λ r. ((stands r && not (nat_lt r (suc p))) || nat_eq r p) ≡ (stands r && not (nat_lt r (end_of at)))) at_p
          (ap (λ b. (stands p && not b) || nat_eq p p) (less_true p (suc p) (omega arith))
          ∙ (ap (λ b. (stands p && false) || b) (nat_one p)
          ∙ (or_true (stands p && false)
          ∙ (sym here ∙ (sym (and_always (stands p)) ∙ ap (λ b. stands p && not b) (sym (less_false p (end_of at) next.within))))))))
    ])
  ]
    where
      or_true : (b : Bool) → (b || true) ≡ true
      or_true true = refl
      or_true false = refl

      before : q < p → (stands q && not (nat_lt q (end_of at))) ≡ false
      before below = elim (cases_lt q (end_of at)) [
        | inl there ↦ ap (λ b. stands q && not b) (less_true q (end_of at) there) ∙ and_never (stands q)
        | inr past ↦ ap (λ b. b && not (nat_lt q (end_of at))) (next.none q (omega (arith, past)) below)
      ]

  pub stands_next : (old now : List ℕ) (p : ℕ) → Listing old now (Some p) → stands p ≡ true
  stands_next old now p l = (is_last events e (suc p) p (sym l.last)).stands

  pub listing_more : (old now new : List ℕ) (p : ℕ) (at : Option ℕ) → Listing old now (Some p) → at ≡ last_place events e p → new ≡ now ++ p ∷ [] → Listing old new at
  listing_more old now new p at l is pushed =
      let next = is_next at p is in
      record {
        last = next.last;
        within = (let w = l.within in let b = next.within in omega (arith, w, b));
        listed = λ q.
            ap (list_any (nat_eq q)) pushed
            ∙ (any_more (nat_eq q) now p
            ∙ (ap (λ b. b || nat_eq q p) (l.listed q)
            ∙ (or_joined (list_any (nat_eq q) old) (stands q && not (nat_lt q (suc p))) (nat_eq q p)
            ∙ ap (λ b. list_any (nat_eq q) old || b) (one_place p at (stands_next old now p l) next q))));
      }

  pub listing_ends : (old now : List ℕ) → Listing old now None → (q : ℕ) → list_any (nat_eq q) now ≡ (list_any (nat_eq q) old || stands q)
  listing_ends old now l q = l.listed q ∙ ap (λ b. list_any (nat_eq q) old || b) (ap (λ b. stands q && not b) (less_false q 0 (omega arith)) ∙ and_always (stands q))

pub listing_of : (steps : List (Step TermId)) (e : ListedEvent) (old : List ℕ) (at : Option ℕ) → at ≡ last_place (events_of steps) e (length steps) → Listing (events_of steps) e old old at
listing_of steps e old at h = listing_begins (events_of steps) e old at (h ∙ ap (last_place (events_of steps) e) (sym (length-map steps (λ x. event_of x))))

any_default : (xs : List (Option ℕ)) (q : ℕ) (d e : Option ℕ) → q < length xs → get_or xs q d ≡ get_or xs q e
any_default [] q d e h = absurd (omega (arith, h))
any_default (x ∷ xs) zero d e h = refl
any_default (x ∷ xs) (suc q) d e h = any_default xs q d e (omega (arith, h))

-- a place that is listed is one of the index
pub listed_within : (index : StepIndex) (steps : List (Step TermId)) (e : ListedEvent) (old now : List ℕ) (p : ℕ) → IsIndexOf index (events_of steps) (length steps) → Listing (events_of steps) e old now (Some p) → p < length index.earlier.items
listed_within index steps e old now p h l = let w = l.within in let n = h.count in omega (arith, w, n, length-map steps (λ x. event_of x))

-- the index has the place before it
pub before_listed : (index : StepIndex) (steps : List (Step TermId)) (e : ListedEvent) (old now : List ℕ) (p : ℕ) (d : Option ℕ) → IsIndexOf index (events_of steps) (length steps) → Listing (events_of steps) e old now (Some p) → get_or index.earlier.items p d ≡ last_place (events_of steps) e p
before_listed index steps e old now p d h l =
    any_default index.earlier.items p d None (listed_within index steps e old now p h l)
    ∙ h.earlier p e (let w = l.within in omega (arith, w, length-map steps (λ x. event_of x))) (stands_next (events_of steps) e old now p l)

-- and that one is lower
pub lower_next : (events : List ListedEvent) (e : ListedEvent) (p : ℕ) (at : Option ℕ) → at ≡ last_place events e p → end_of at < suc p
lower_next events e p at h = let w = (is_next events e at p h).within in omega (arith, w)

-- ---- places of all events that matter

abbrev pub of_set : List Condition → ListedEvent → Bool
of_set set x = list_any (λ k. same_event (is_violated k) x) set

nat_turned : (a b : ℕ) → nat_eq a b ≡ nat_eq b a
nat_turned a b = grind arith

no_hit : (set : List Condition) (j : ℕ) → of_set set (is_hit j) ≡ false
no_hit [] j = refl
no_hit (k ∷ ks) j = no_hit ks j

what_matters : (set : List Condition) (c : ℕ) (x : ListedEvent) → (same_event (is_hit c) x || of_set set x) ≡ matters set c x
what_matters set c (is_violated k) = refl
what_matters set c (is_hit j) = ap (λ b. nat_eq c j || b) (no_hit set j) ∙ (or_same (nat_eq c j) ∙ nat_turned c j)

module _ (events : List ListedEvent) (set : List Condition) (c : ℕ) where
  -- those that are listed, and those of the rest of the set
  abbrev pub Collected : List ℕ → List Condition → Type 0
  Collected places rest = (q : ℕ) → (list_any (nat_eq q) places || passes_at (of_set rest) events q) ≡ passes_at (matters set c) events q

  pub collecting_begins : (places : List ℕ) → ((q : ℕ) → list_any (nat_eq q) places ≡ (false || passes_at (same_event (is_hit c)) events q)) → Collected places set
  collecting_begins places h q =
      ap (λ b. b || passes_at (of_set set) events q) (h q)
      ∙ (sym (passes_either (same_event (is_hit c)) (of_set set) events q)
      ∙ passes_alike (λ x. same_event (is_hit c) x || of_set set x) (matters set c) (what_matters set c) events q)

  pub collecting_more : (old new : List ℕ) (rest behind : List Condition) (k : Condition) → rest ≡ k ∷ behind → Collected old rest → ((q : ℕ) → list_any (nat_eq q) new ≡ (list_any (nat_eq q) old || passes_at (same_event (is_violated k)) events q)) → Collected new behind
  collecting_more old new rest behind k is l h q =
      ap (λ b. b || passes_at (of_set behind) events q) (h q)
      ∙ (or_joined (list_any (nat_eq q) old) (passes_at (same_event (is_violated k)) events q) (passes_at (of_set behind) events q)
      ∙ (ap (λ b. list_any (nat_eq q) old || b) (sym (passes_either (same_event (is_violated k)) (of_set behind) events q))
      ∙ (ap (λ r. list_any (nat_eq q) old || passes_at (of_set r) events q) (sym is) ∙ l q)))

  pub collecting_ends : (places : List ℕ) (rest : List Condition) → rest ≡ [] → Collected places rest → ArePlaces (matters set c) events places
  collecting_ends places rest is l q =
      sym (or_same (list_any (nat_eq q) places)) ∙ (ap (λ b. list_any (nat_eq q) places || b) (sym (passes_never events q)) ∙ (ap (λ r. list_any (nat_eq q) places || passes_at (of_set r) events q) (sym is) ∙ l q))

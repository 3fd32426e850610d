-- The places where an event stands, and an index that leads from the last one to those before.
use Rattle.std.proofs.Common.{◌≡◌, ℕ, zero, suc, ◌<◌, ◌≤◌, ◌⊎◌, inl, inr, Bool, true, false, ◌&&◌, ◌||◌, List, [], ◌∷◌, length, get_or, Some, None, refl, sym, ap, subst, ◌∙◌, arith, nat_eq, if◌then◌else◌}
use Rattle.std.proofs.lemmas.Bool.{true≢false}
use Rattle.std.proofs.lemmas.Option.{none-some}
use Rattle.stk_numbers.specs.declared.conditions.Condition.{Condition}
use Rattle.stk_numbers.specs.Taken.{number_of}
use Rattle.stk_meaning.specs.Hits.{same_condition}
use Rattle.stk_terms.specs.declared.term.TermId.{TermId}
use Rattle.stk_terms.proofs.Sharing.{some_one}
use Rattle.stk_values.specs.declared.walked.Step.{Step}
use Rattle.stk_values.specs.Walks.{ListedEvent, is_violated, is_hit, event_of}
use Rattle.stk_symbols.specs.Matters.{same_event, passes_at, last_place, events_of}

-- ---- events that are one

nat_same : (a b : ℕ) → nat_eq a b ≡ true → a ≡ b
nat_same a b e = grind arith

nat_turned : (a b : ℕ) → nat_eq a b ≡ nat_eq b a
nat_turned a b = grind arith

pub nat_one : (a : ℕ) → nat_eq a a ≡ true
nat_one a = grind arith

both_true : (a b : Bool) → (a && b) ≡ true → (a ≡ true) × (b ≡ true)
both_true true b e = (refl, e)
both_true false b e = absurd (true≢false (sym e))

conditions_turned : (k j : Condition) → same_condition k j ≡ same_condition j k
conditions_turned k j = (λ i. nat_turned k.node j.node i && nat_turned (number_of k.kind) (number_of j.kind) i)

pub turned : (x y : ListedEvent) → same_event x y ≡ same_event y x
turned (is_violated k) (is_violated j) = conditions_turned k j
turned (is_violated k) (is_hit j) = refl
turned (is_hit i) (is_violated j) = refl
turned (is_hit i) (is_hit j) = nat_turned i j

pub same_itself : (x : ListedEvent) → same_event x x ≡ true
same_itself (is_violated k) = (λ i. nat_one k.node i && nat_one (number_of k.kind) i)
same_itself (is_hit j) = nat_one j

-- what is one with an event is one with the same events
pub alike : (x y z : ListedEvent) → same_event x y ≡ true → same_event x z ≡ same_event y z
alike (is_violated k) (is_violated j) (is_violated i) e =
    let h = both_true (nat_eq k.node j.node) (nat_eq (number_of k.kind) (number_of j.kind)) e in
    (λ n. nat_eq (nat_same k.node j.node h.0 n) i.node && nat_eq (nat_same (number_of k.kind) (number_of j.kind) h.1 n) (number_of i.kind))
alike (is_violated k) (is_violated j) (is_hit i) e = refl
alike (is_violated k) (is_hit j) z e = absurd (true≢false (sym e))
alike (is_hit k) (is_violated j) z e = absurd (true≢false (sym e))
alike (is_hit k) (is_hit j) (is_violated i) e = refl
alike (is_hit k) (is_hit j) (is_hit i) e = ap (λ n. nat_eq n i) (nat_same k j e)

-- ---- tests at places

pub passes_alike : (f g : ListedEvent → Bool) → ((x : ListedEvent) → f x ≡ g x) → (events : List ListedEvent) (q : ℕ) → passes_at f events q ≡ passes_at g events q
passes_alike f g h [] q = refl
passes_alike f g h (x ∷ xs) zero = h x
passes_alike f g h (x ∷ xs) (suc q) = passes_alike f g h xs q

pub passes_either : (f g : ListedEvent → Bool) (events : List ListedEvent) (q : ℕ) → passes_at (λ x. f x || g x) events q ≡ (passes_at f events q || passes_at g events q)
passes_either f g [] q = refl
passes_either f g (x ∷ xs) zero = refl
passes_either f g (x ∷ xs) (suc q) = passes_either f g xs q

pub passes_never : (events : List ListedEvent) (q : ℕ) → passes_at (λ x. false) events q ≡ false
passes_never [] q = refl
passes_never (x ∷ xs) zero = refl
passes_never (x ∷ xs) (suc q) = passes_never xs q

pub passes_beyond : (f : ListedEvent → Bool) (events : List ListedEvent) (q : ℕ) → length events ≤ q → passes_at f events q ≡ false
passes_beyond f [] q h = refl
passes_beyond f (x ∷ xs) zero h = absurd (omega (arith, h))
passes_beyond f (x ∷ xs) (suc q) h = passes_beyond f xs q (omega (arith, h))

pub passes_within : (f : ListedEvent → Bool) (events : List ListedEvent) (q : ℕ) → passes_at f events q ≡ true → q < length events
passes_within f [] q e = absurd (true≢false (sym e))
passes_within f (x ∷ xs) zero e = omega arith
passes_within f (x ∷ xs) (suc q) e = let h = passes_within f xs q e in omega (arith, h)

-- where an event stands, another one does where they are one
pub stands_as : (x y : ListedEvent) (events : List ListedEvent) (q : ℕ) → passes_at (same_event x) events q ≡ true → passes_at (same_event y) events q ≡ same_event x y
stands_as x y [] q e = absurd (true≢false (sym e))
stands_as x y (z ∷ zs) zero e = turned y z ∙ sym (alike x z y e)
stands_as x y (z ∷ zs) (suc q) e = stands_as x y zs q e

-- the event of a step stands at its place
pub stands_there : (xs : List (Step TermId)) (q : ℕ) (d : Step TermId) → q < length xs → passes_at (same_event (event_of (get_or xs q d))) (events_of xs) q ≡ true
stands_there [] q d h = absurd (omega (arith, h))
stands_there (x ∷ xs) zero d h = same_itself (event_of x)
stands_there (x ∷ xs) (suc q) d h = stands_there xs q d (omega (arith, h))

-- ---- last places

pub last_alike : (events : List ListedEvent) (x y : ListedEvent) (n : ℕ) → same_event x y ≡ true → last_place events x n ≡ last_place events y n
last_alike events x y zero e = refl
last_alike events x y (suc n) e = (λ i. if passes_alike (same_event x) (same_event y) (λ z. alike x y z e) events n i then Some n else last_alike events x y n e i)

-- one event more
pub last_more : (events : List ListedEvent) (x y : ListedEvent) (n : ℕ) → passes_at (same_event x) events n ≡ true → last_place events y (suc n) ≡ (if same_event x y then Some n else last_place events y n)
last_more events x y n e = ap (λ b. if b then Some n else last_place events y n) (stands_as x y events n e)

pub record IsLast (events : List ListedEvent) (e : ListedEvent) (n p : ℕ) : Type 0 where
  pub below : p < n
  pub stands : passes_at (same_event e) events p ≡ true
  pub none : (q : ℕ) → p < q → q < n → passes_at (same_event e) events q ≡ false

below_or_at : (q n : ℕ) → q < suc n → (q < n) ⊎ (q ≡ n)
below_or_at q n l = grind (arith, l)

module _ (events : List ListedEvent) (e : ListedEvent) where
  none_more : (n q : ℕ) → passes_at (same_event e) events n ≡ false → (q < n → passes_at (same_event e) events q ≡ false) → q < suc n → passes_at (same_event e) events q ≡ false
  none_more n q is before less = elim (below_or_at q n less) [
    | inl there ↦ before there
    | inr at ↦ subst (λ r. passes_at (same_event e) events r ≡ false) (sym at) is
  ]

  last_found : (n p : ℕ) (b : Bool) → passes_at (same_event e) events n ≡ b → ((p : ℕ) → last_place events e n ≡ Some p → IsLast events e n p) → (if b then Some n else last_place events e n) ≡ Some p → IsLast events e (suc n) p
  last_found n p true is before h =
      let same : n ≡ p = some_one h in
      record {
        below = omega (arith, same);
        stands = subst (λ q. passes_at (same_event e) events q ≡ true) same is;
        none = λ q more less. absurd (omega (arith, same, more, less));
      }
  last_found n p false is before h =
      let l = before p h in
      record {
        below = (let b = l.below in omega (arith, b));
        stands = l.stands;
        none = λ q more less. none_more n q is (l.none q more) less;
      }

  pub is_last : (n p : ℕ) → last_place events e n ≡ Some p → IsLast events e n p
  is_last zero p h = absurd (none-some _ h)
  is_last (suc n) p h = last_found n p (passes_at (same_event e) events n) refl (is_last n) h

  none_found : (n q : ℕ) (b : Bool) → passes_at (same_event e) events n ≡ b → (last_place events e n ≡ None → q < n → passes_at (same_event e) events q ≡ false) → (if b then Some n else last_place events e n) ≡ None → q < suc n → passes_at (same_event e) events q ≡ false
  none_found n q true is before h less = absurd (none-some _ (sym h))
  none_found n q false is before h less = none_more n q is (before h) less

  pub none_stands : (n q : ℕ) → last_place events e n ≡ None → q < n → passes_at (same_event e) events q ≡ false
  none_stands zero q h less = absurd (omega (arith, less))
  none_stands (suc n) q h less = none_found n q (passes_at (same_event e) events n) refl (none_stands n q) h less

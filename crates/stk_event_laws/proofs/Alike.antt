-- When two events are one, as a test, and how often an event stands in a list.
use Rattle.std.proofs.Common.{◌≡◌, ℕ, zero, suc, ◌+◌, ◌≤◌, ◌==◌, Bool, true, false, List, [], ◌∷◌, ◌++◌, refl, sym, ap, ◌∙◌, subst, inl, inr, arith}
use Rattle.std.proofs.lemmas.Grind.{common_steps}
use Rattle.std.specs.Prelude.{◌&&◌, if◌then◌else◌}
use Rattle.stk_numbers.specs.declared.conditions.CandKind.{CandKind}
use Rattle.stk_numbers.specs.declared.conditions.CandKind.TheVariants.{Arm, AlwaysTrue, AlwaysFalse, Algebra}
use Rattle.stk_numbers.specs.declared.conditions.Candidate.{Candidate}
use Rattle.stk_numbers.specs.declared.conditions.Condition.{Condition}
use Rattle.stk_numbers.specs.declared.conditions.UbKind.{UbKind}
use Rattle.stk_numbers.specs.declared.conditions.UbKind.TheVariants as ub
use Rattle.stk_numbers.specs.Taken.{number_of}
use Rattle.stk_meaning.specs.Hits.{same_condition}
use Rattle.stk_run_laws.specs.Visits.{IsIn}
use Rattle.stk_run_laws.specs.Listed.{candidate_number, IsBeforeAll, AreInOrder}
use Rattle.stk_run_laws.proofs.Nodes.{in_either}
use Rattle.stk_run_laws.proofs.Lists.{same_of, and_right}
use Rattle.stk_walking.specs.declared.state.Event.{Event}
use Rattle.stk_walking.specs.declared.state.Event.TheVariants.{Broken, Hit}
use Rattle.stk_event_laws.specs.Listed.{StandOnce}
use Rattle.stk_event_laws.specs.Positions.{same_candidate}
use Rattle.stk_event_laws.proofs.Totals.{total}

-- ---- events that are one

pub number_itself : (k : ℕ) → k == k ≡ true
number_itself k = grind (arith, common_steps)

both_true : (a b : Bool) → a ≡ true → b ≡ true → a && b ≡ true
both_true true b p q = q
both_true false b p q = absurd cc

same_kind : (a b : UbKind) → number_of a == number_of b ≡ true → a ≡ b
same_kind ub.Overflow ub.Overflow h = refl
same_kind ub.Zero ub.Zero h = refl
same_kind ub.Shift ub.Shift h = refl
same_kind ub.Null ub.Null h = refl
same_kind ub.Pointer ub.Pointer h = refl
same_kind ub.Bounds ub.Bounds h = refl
same_kind ub.AbsValue ub.AbsValue h = refl
same_kind ub.Overlap ub.Overlap h = refl
same_kind a b h = absurd cc

same_candidate_kind : (a b : CandKind) → candidate_number a == candidate_number b ≡ true → a ≡ b
same_candidate_kind Arm Arm h = refl
same_candidate_kind AlwaysTrue AlwaysTrue h = refl
same_candidate_kind AlwaysFalse AlwaysFalse h = refl
same_candidate_kind Algebra Algebra h = refl
same_candidate_kind a b h = absurd cc

condition_is : (a b : Condition) → same_condition a b ≡ true → a ≡ b
condition_is a b h =
    let node : a.node ≡ b.node = same_of a.node b.node (number_of a.kind == number_of b.kind) h in
    let kind : a.kind ≡ b.kind = same_kind a.kind b.kind (and_right (a.node == b.node) (number_of a.kind == number_of b.kind) h) in
    ap (λ n. record { node = n; kind = a.kind }) node ∙ ap (λ k. record { node = b.node; kind = k }) kind

pub candidate_is : (a b : Candidate) → same_candidate a b ≡ true → a ≡ b
candidate_is a b h =
    let node : a.node ≡ b.node = same_of a.node b.node (candidate_number a.kind == candidate_number b.kind) h in
    let kind : a.kind ≡ b.kind = same_candidate_kind a.kind b.kind (and_right (a.node == b.node) (candidate_number a.kind == candidate_number b.kind) h) in
    ap (λ n. record { node = n; kind = a.kind }) node ∙ ap (λ k. record { node = b.node; kind = k }) kind

pub candidate_itself : (a : Candidate) → same_candidate a a ≡ true
candidate_itself a = both_true _ _ (number_itself a.node) (number_itself (candidate_number a.kind))

abbrev same_event : Event → Event → Bool
same_event (Broken a) (Broken b) = same_condition a b
same_event (Broken a) (Hit b) = false
same_event (Hit a) (Broken b) = false
same_event (Hit a) (Hit b) = same_candidate a b

event_is : (x y : Event) → same_event x y ≡ true → x ≡ y
event_is (Broken a) (Broken b) h = ap (λ c. Broken c) (condition_is a b h)
event_is (Broken a) (Hit b) h = absurd cc
event_is (Hit a) (Broken b) h = absurd cc
event_is (Hit a) (Hit b) h = ap (λ c. Hit c) (candidate_is a b h)

event_itself : (x : Event) → same_event x x ≡ true
event_itself (Broken a) = both_true _ _ (number_itself a.node) (number_itself (number_of a.kind))
event_itself (Hit a) = candidate_itself a

-- ---- how often an event stands in a list

abbrev pub mark : Event → Event → ℕ
mark x y = if same_event x y then 1 else 0

mark_itself : (x y : Event) → x ≡ y → mark x y ≡ 1
mark_itself x y e = ap (λ b. if b then 1 else 0) (ap (same_event x) (sym e) ∙ event_itself x)

pub in_total : (x : Event) (xs : List Event) → IsIn x xs → 1 ≤ total (mark x) xs
in_total x [] h = absurd h
in_total x (y ∷ ys) (inl e) = let p = mark_itself x y e in omega arith
in_total x (y ∷ ys) (inr h) = let p = in_total x ys h in omega arith

pub out_total : (x : Event) (xs : List Event) → 1 ≤ total (mark x) xs → IsIn x xs
out_total x [] h = absurd (omega arith)
out_total x (y ∷ ys) h = by (same_event x y) refl h (λ l. out_total x ys l)
  where
    by : (b : Bool) → same_event x y ≡ b → 1 ≤ (if b then 1 else 0) + total (mark x) ys → (1 ≤ total (mark x) ys → IsIn x ys) → IsIn x (y ∷ ys)
    by true e l rest = inl (event_is x y e)
    by false e l rest = inr (rest (omega arith))

none_of : (n : ℕ) → (1 ≤ n → ⊥) → n ≡ 0
none_of zero h = refl
none_of (suc n) h = absurd (h (omega arith))

pub once_total : (x : Event) (xs : List Event) → StandOnce xs → total (mark x) xs ≤ 1
once_total x [] h = omega arith
once_total x (y ∷ ys) h = by (same_event x y) refl (once_total x ys h.1)
  where
    by : (b : Bool) → same_event x y ≡ b → total (mark x) ys ≤ 1 → (if b then 1 else 0) + total (mark x) ys ≤ 1
    by true e rest =
        let same : x ≡ y = event_is x y e in
        let none : total (mark x) ys ≡ 0 = none_of (total (mark x) ys) (λ l. h.0 (subst (λ z. IsIn z ys) same (out_total x ys l))) in
        omega arith
    by false e rest = omega arith

pub total_once : (xs : List Event) → ((x : Event) → total (mark x) xs ≤ 1) → StandOnce xs
total_once [] h = tt
total_once (y ∷ ys) h = (
  λ i. absurd (let p = in_total y ys i in let q = mark_itself y y refl in let r = h y in omega arith),
  total_once ys (λ x. let r = h x in omega arith),
)

-- ---- lists that are in order

pub before_of : {A : Type 0} (Before : A → A → Type 0) (x y : A) (ys : List A) → IsBeforeAll Before x ys → IsIn y ys → Before x y
before_of Before x y [] h i = absurd i
before_of Before x y (z ∷ zs) h (inl e) = subst (Before x) (sym e) h.0
before_of Before x y (z ∷ zs) h (inr i) = before_of Before x y zs h.1 i

pub once_of : {A : Type 0} (Before : A → A → Type 0) → ((x : A) → Before x x → ⊥) → (xs : List A) → AreInOrder Before xs → StandOnce xs
once_of Before apart [] h = tt
once_of Before apart (x ∷ xs) h = (λ i. apart x (before_of Before x x xs h.0 i), once_of Before apart xs h.1)

-- two lists one after the other that have nothing in common
pub once_append : {A : Type 0} (a b : List A) → StandOnce a → StandOnce b → ((x : A) → IsIn x a → IsIn x b → ⊥) → StandOnce (a ++ b)
once_append [] b p q h = q
once_append (x ∷ a) b p q h = (
  λ i. elim (in_either x a b i) [ inl j ↦ p.0 j | inr j ↦ h x (inl refl) j ],
  once_append a b p.1 q (λ y i j. h y (inr i) j),
)

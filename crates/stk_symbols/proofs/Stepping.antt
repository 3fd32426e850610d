-- A goal while the steps on which it depends are gone over.
use Rattle.std.proofs.Common.{◌≡◌, ℕ, ◌+◌, ◌<◌, ◌≤◌, Bool, true, false, ◌&&◌, ◌||◌, List, [], ◌∷◌, length, refl, sym, ap, subst, ◌∙◌, arith, if◌then◌else◌}
use Rattle.std.specs.declared.option.Option.{Option}
use Rattle.std.specs.declared.option.Option.TheVariants.{None, Some}
use Rattle.stk_numbers.specs.declared.conditions.Condition.{Condition}
use Rattle.stk_terms.specs.declared.term.TermId.{TermId}
use Rattle.stk_terms.specs.Terms.{Stored}
use Rattle.stk_terms.specs.Values.{bit}
use Rattle.stk_terms.specs.Cost.{IsClosed, Grows}
use Rattle.stk_values.specs.declared.walked.Step.{Step}
use Rattle.stk_values.specs.declared.walked.Step.TheVariants.{Broken, Hit}
use Rattle.stk_values.specs.Walks.{ListedEvent, is_violated, is_hit, event_of, test_of, EachTest, Says}
use Rattle.stk_symbols.specs.declared.goals.GoalState.{GoalState}
use Rattle.stk_symbols.specs.Valued.{IsTerm, Obeys, Grown}
use Rattle.stk_symbols.specs.Goals.{is_hit_first, full_charge, full_charges, MaybeTerm, MaybeChosen, MaybeIs, joining, Truths, no_state, IsState, StateIs, HasState, when_violated, when_hit, next, Spends}
use Rattle.stk_symbols.proofs.Made.{term_kept, obeys_before, grown_same, grown_then}

-- ---- growth of choices

-- a term over what was made, in two steps
pub grows_then : (s t u : Stored) (chosen : ℕ → Bool) (a b n v w : ℕ) → length s.terms ≤ length t.terms → (g : Grows s t chosen a v) → Grows t u g.more b w → a + b ≤ n → Grows s u chosen n w
grows_then s t u chosen a b n v w l g h e = record {
  more = h.more;
  closed = h.closed;
  extends = λ i k c. h.extends i (omega (arith, k, l)) (g.extends i k c);
  has = h.has;
  within = omega (arith, g.within, h.within, e);
}

-- what is chosen stays chosen
pub maybe_later : (s t : Stored) (chosen : ℕ → Bool) (n v : ℕ) (x : Option TermId) → MaybeTerm s x → (g : Grows s t chosen n v) → MaybeChosen chosen x → MaybeChosen g.more x
maybe_later s t chosen n v None m g c = tt
maybe_later s t chosen n v (Some a) m g c = g.extends a.0 m.exists_ c

pub joining_few : (x : Option TermId) → joining x ≤ 3
joining_few None = omega arith
joining_few (Some v) = omega arith

pub maybe_kept : (old new : Stored) (n : ℕ) (x : Option TermId) → Grown old new n → MaybeTerm old x → MaybeTerm new x
maybe_kept old new n None g m = tt
maybe_kept old new n (Some v) g m = term_kept old new n 1 v.0 g m

pub state_kept : (old new : Stored) (n : ℕ) (x : GoalState) → Grown old new n → IsState old x → IsState new x
state_kept old new n x g m = record { clear = maybe_kept old new n x.clear g m.clear; found = maybe_kept old new n x.found g m.found }

-- ---- truths

pub and_true : (x y : Bool) → x ≡ true → (x && y) ≡ y
and_true true y e = refl
and_true false y e = absurd (cc)

pub or_false : (x y : Bool) → x ≡ false → (x || y) ≡ y
or_false false y e = refl
or_false true y e = absurd (cc)

or_none : (x : Bool) → (x || false) ≡ x
or_none true = refl
or_none false = refl

pub and_none : (x y : Bool) → y ≡ false → (x && y) ≡ false
and_none true y e = e
and_none false y e = refl

abbrev truths : Bool → Bool → Truths
truths g f = record { clear = g; found = f }

violated_step : (f g b h : Bool) → (f || (g && (if b then false else h))) ≡ ((when_violated (truths g f) b).found || ((when_violated (truths g f) b).clear && h))
violated_step f true true h = refl
violated_step f false true h = refl
violated_step f true false h = refl
violated_step f false false h = refl

hit_step : (f g b h : Bool) → (f || (g && (if b then true else h))) ≡ ((when_hit (truths g f) b).found || ((when_hit (truths g f) b).clear && h))
hit_step true g b h = refl
hit_step false true true h = refl
hit_step false true false h = refl
hit_step false false b h = refl

first_violated : (k : Condition) (b : Bool) (u : List ListedEvent) → is_hit_first (if b then is_violated k ∷ u else u) ≡ (if b then false else is_hit_first u)
first_violated k true u = refl
first_violated k false u = refl

first_hit : (j : ℕ) (b : Bool) (u : List ListedEvent) → is_hit_first (if b then is_hit j ∷ u else u) ≡ (if b then true else is_hit_first u)
first_hit j true u = refl
first_hit j false u = refl

-- a step takes what is left along
pub goes_along : (t : Truths) (s : Step TermId) (b : Bool) (u : List ListedEvent) → (t.found || (t.clear && is_hit_first (if b then event_of s ∷ u else u))) ≡ ((next t s b).found || ((next t s b).clear && is_hit_first u))
goes_along t (Broken k v) b u = ap (λ h. t.found || (t.clear && h)) (first_violated k b u) ∙ violated_step t.found t.clear b (is_hit_first u)
goes_along t (Hit j v) b u = ap (λ h. t.found || (t.clear && h)) (first_hit j b u) ∙ hit_step t.found t.clear b (is_hit_first u)

-- ---- steps

pub tests_later : (P Q : TermId → Type 0) (xs : List (Step TermId)) → ((v : TermId) → P v → Q v) → EachTest P xs → EachTest Q xs
tests_later P Q [] f h = tt
tests_later P Q (x ∷ xs) f h = (f (test_of x) h.0, tests_later P Q xs f h.1)

pub says_later : (P Q : TermId → Bool → Type 0) (xs : List (Step TermId)) (t : List ListedEvent) → ((v : TermId) (b : Bool) → P v b → Q v b) → Says P xs t → Says Q xs t
says_later P Q [] t f h = h
says_later P Q (x ∷ xs) t f h = (h.0, h.1, f (test_of x) h.0 h.2, says_later P Q xs h.1 f h.3, h.4)

-- tests that are chosen stay chosen
pub tests_chosen : (old new : Stored) (chosen more : ℕ → Bool) (xs : List (Step TermId)) → ((i : ℕ) → i < length old.terms → chosen i ≡ true → more i ≡ true) → EachTest (λ v. IsTerm old 32 v.0) xs → EachTest (λ v. chosen v.0 ≡ true) xs → EachTest (λ v. more v.0 ≡ true) xs
tests_chosen old new chosen more [] f t h = tt
tests_chosen old new chosen more (x ∷ xs) f t h = (f (test_of x).0 t.0.exists_ h.0, tests_chosen old new chosen more xs f t.1 h.1)

abbrev pub Bits : (ℕ → ℕ) → TermId → Bool → Type 0
Bits numbers v b = numbers v.0 ≡ bit b

-- what is left of the events, and what was found before them
pub record Ahead (numbers : ℕ → ℕ) (events : List ListedEvent) (rest : List (Step TermId)) (x : GoalState) : Type 0 where
  pub truths_so_far : Truths
  pub left : List ListedEvent
  pub state : StateIs numbers x truths_so_far
  pub says : Says (λ v b. numbers v.0 ≡ bit b) rest left
  pub whole : is_hit_first events ≡ (truths_so_far.found || (truths_so_far.clear && is_hit_first left))

-- a choice that has grown by the state has the tests of what is left
pub record Along (first now : Stored) (chosen : ℕ → Bool) (rest : List (Step TermId)) (x : GoalState) (n : ℕ) : Type 0 where
  pub spends : Spends first now chosen no_state x n
  pub tests : EachTest (λ v. spends.more v.0 ≡ true) rest

module _ (all : List (Step TermId)) (first : Stored) where
  pub record SoFar (now : Stored) (rest : List (Step TermId)) (x : GoalState) : Type 0 where
    pub made : IsState now x
    pub tests : EachTest (λ v. IsTerm now 32 v.0) rest
    pub spent : ℕ
    pub sum : spent + full_charges rest ≡ full_charges all
    pub grown : Grown first now spent
    pub value : (numbers : ℕ → ℕ) (events : List ListedEvent) → Obeys now numbers → Says (λ v b. numbers v.0 ≡ bit b) all events → Ahead numbers events rest x
    pub along : (chosen : ℕ → Bool) → IsClosed first chosen → EachTest (λ v. chosen v.0 ≡ true) all → Along first now chosen rest x spent

  pub begins : EachTest (λ v. IsTerm first 32 v.0) all → SoFar first all no_state
  begins t = record {
    made = record { clear = tt; found = tt };
    tests = t;
    spent = 0;
    sum = omega arith;
    grown = grown_same first 0;
    value = λ numbers events o s. record { truths_so_far = truths true false; left = events; state = record { clear = refl; found = refl }; says = s; whole = refl };
    along = λ chosen closed h. record {
      spends = record { more = chosen; closed = closed; extends = λ i l k. k; has_state = record { clear = tt; found = tt }; within = omega arith };
      tests = h;
    };
  }

  module _ (now new : Stored) (s : Step TermId) (rest : List (Step TermId)) (x y : GoalState) (f : SoFar now (s ∷ rest) x)
      (made : IsState new y)
      (value : (numbers : ℕ → ℕ) (t : Truths) (b : Bool) → Obeys new numbers → StateIs numbers x t → numbers (test_of s).0 ≡ bit b → StateIs numbers y (next t s b))
      (spends : (chosen : ℕ → Bool) → IsClosed now chosen → HasState chosen x → chosen (test_of s).0 ≡ true → Spends now new chosen x y (full_charge s))
      (grown : Grown now new (full_charge s)) where
    ahead : (numbers : ℕ → ℕ) (events : List ListedEvent) → Obeys new numbers → Ahead numbers events (s ∷ rest) x → Ahead numbers events rest y
    ahead numbers events o a =
        let b = a.says.0 in
        let u = a.says.1 in
        record {
          truths_so_far = next a.truths_so_far s b;
          left = u;
          state = value numbers a.truths_so_far b o a.state a.says.2;
          says = a.says.3;
          whole = a.whole ∙ (ap (λ l. a.truths_so_far.found || (a.truths_so_far.clear && is_hit_first l)) a.says.4 ∙ goes_along a.truths_so_far s b u);
        }

    further : (chosen : ℕ → Bool) → Along first now chosen (s ∷ rest) x f.spent → Along first new chosen rest y (f.spent + full_charge s)
    further chosen a =
        let g = spends a.spends.more a.spends.closed a.spends.has_state a.tests.0 in
        record {
          spends = record {
            more = g.more;
            closed = g.closed;
            extends = λ i l k. g.extends i (omega (arith, l, f.grown.keeps.longer)) (a.spends.extends i l k);
            has_state = g.has_state;
            within = omega (arith, a.spends.within, g.within);
          };
          tests = tests_chosen now new a.spends.more g.more rest g.extends f.tests.1 a.tests.1;
        }

    pub goes_on : SoFar new rest y
    goes_on = record {
      made = made;
      tests = tests_later _ _ rest (λ v t. term_kept now new (full_charge s) 32 v.0 grown t) f.tests.1;
      spent = f.spent + full_charge s;
      sum = omega (arith, f.sum);
      grown = grown_then first now new f.spent (full_charge s) (f.spent + full_charge s) f.grown grown (omega arith);
      value = λ numbers events o h. ahead numbers events o (f.value numbers events (obeys_before now new (full_charge s) numbers grown o) h);
      along = λ chosen closed h. further chosen (f.along chosen closed h);
    }

  module _ (now : Stored) (x : GoalState) (f : SoFar now [] x) where
    total : f.spent ≡ full_charges all
    total = let e : f.spent + 0 ≡ full_charges all = f.sum in omega (arith, e)

    pub ends_grown : Grown first now (full_charges all)
    ends_grown = subst (Grown first now) total f.grown

    pub ends_value : (numbers : ℕ → ℕ) (events : List ListedEvent) → Obeys now numbers → Says (λ v b. numbers v.0 ≡ bit b) all events → MaybeIs numbers false x.found (is_hit_first events)
    ends_value numbers events o h =
        let a = f.value numbers events o h in
        let t = a.truths_so_far in
        let e : is_hit_first events ≡ t.found = a.whole ∙ (ap (λ l. t.found || (t.clear && is_hit_first l)) a.says ∙ (ap (λ b. t.found || b) (and_none t.clear false refl) ∙ or_none t.found)) in
        subst (MaybeIs numbers false x.found) (sym e) a.state.found

    pub ends_spends : (chosen : ℕ → Bool) → IsClosed first chosen → EachTest (λ v. chosen v.0 ≡ true) all → Spends first now chosen no_state x (full_charges all)
    ends_spends chosen closed h = subst (Spends first now chosen no_state x) total (f.along chosen closed h).spends

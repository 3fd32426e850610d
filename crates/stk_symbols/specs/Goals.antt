-- Goals: terms that are 1 where a candidate is hit and no condition of a set was violated before.
use Rattle.std.specs.Prelude.{◌≡◌, ℕ, ◌+◌, ◌<◌, ◌≤◌, Bool, true, false, not, ◌&&◌, ◌||◌, List, [], ◌∷◌, length, nat_eq, if◌then◌else◌}
use Rattle.std.specs.declared.option.Option.{Option}
use Rattle.std.specs.declared.option.Option.TheVariants.{None, Some}
use Rattle.stk_numbers.specs.declared.conditions.Condition.{Condition}
use Rattle.stk_meaning.specs.Hits.{has}
use Rattle.stk_terms.specs.declared.term.TermId.{TermId}
use Rattle.stk_terms.specs.Terms.{Stored}
use Rattle.stk_terms.specs.Values.{bit}
use Rattle.stk_terms.specs.Cost.{IsClosed, weight}
use Rattle.stk_values.specs.declared.walked.Step.{Step}
use Rattle.stk_values.specs.declared.walked.Step.TheVariants.{Broken, Hit}
use Rattle.stk_values.specs.Walks.{ListedEvent, is_violated, is_hit}
use Rattle.stk_symbols.specs.declared.goals.GoalState.{GoalState}
use Rattle.stk_symbols.specs.Valued.{IsTerm}

-- some event hits the candidate, and no condition of the set is violated before it
abbrev pub is_hit_free : List Condition → ℕ → List ListedEvent → Bool
is_hit_free set c [] = false
is_hit_free set c (is_violated k ∷ t) = not (has set k) && is_hit_free set c t
is_hit_free set c (is_hit j ∷ t) = nat_eq j c || is_hit_free set c t

-- what a goal may add to the cost of a walk's terms: 3 for each violation of a member of the set, 6 for each hit of
-- the candidate
abbrev pub step_charge : {V : Type 0} → List Condition → ℕ → Step V → ℕ
step_charge set c (Broken k v) = if has set k then 3 else 0
step_charge set c (Hit j v) = if nat_eq j c then 6 else 0

abbrev pub goal_charge : {V : Type 0} → List Condition → ℕ → List (Step V) → ℕ
goal_charge set c [] = 0
goal_charge set c (x ∷ xs) = step_charge set c x + goal_charge set c xs

-- ---- while the steps on which a goal depends are gone over

-- a bit that may be missing: it is a term; it is chosen; it has this truth, and d where it is missing
abbrev pub MaybeTerm : Stored → Option TermId → Type 0
MaybeTerm s None = Unit {0}
MaybeTerm s (Some v) = IsTerm s 1 v.0

abbrev pub MaybeChosen : (ℕ → Bool) → Option TermId → Type 0
MaybeChosen chosen None = Unit {0}
MaybeChosen chosen (Some v) = chosen v.0 ≡ true

abbrev pub MaybeIs : (ℕ → ℕ) → Bool → Option TermId → Bool → Type 0
MaybeIs numbers d None b = b ≡ d
MaybeIs numbers d (Some v) b = numbers v.0 ≡ bit b

-- the cost of an operator on two bits one of which may be missing
abbrev pub joining : Option TermId → ℕ
joining None = 0
joining (Some v) = 3

-- no member of the set was violated so far; the candidate was hit while none was
pub record Truths : Type 0 where
  pub clear : Bool
  pub found : Bool

abbrev pub no_state : GoalState
no_state = record { clear = None; found = None }

pub record IsState (s : Stored) (x : GoalState) : Type 0 where
  pub clear : MaybeTerm s x.clear
  pub found : MaybeTerm s x.found

pub record StateIs (numbers : ℕ → ℕ) (x : GoalState) (t : Truths) : Type 0 where
  pub clear : MaybeIs numbers true x.clear t.clear
  pub found : MaybeIs numbers false x.found t.found

pub record HasState (chosen : ℕ → Bool) (x : GoalState) : Type 0 where
  pub clear : MaybeChosen chosen x.clear
  pub found : MaybeChosen chosen x.found

-- a member that is violated where b, and a hit where b
abbrev pub when_violated : Truths → Bool → Truths
when_violated t b = record { clear = t.clear && not b; found = t.found }

abbrev pub when_hit : Truths → Bool → Truths
when_hit t b = record { clear = t.clear; found = t.found || (t.clear && b) }

-- after a step on which the goal depends, whose test is b
abbrev pub next : {V : Type 0} → Truths → Step V → Bool → Truths
next t (Broken k v) b = when_violated t b
next t (Hit j v) b = when_hit t b

-- whether the first event is a hit: where goals depend on each event, no violation stands before it
abbrev pub is_hit_first : List ListedEvent → Bool
is_hit_first [] = false
is_hit_first (is_violated k ∷ t) = false
is_hit_first (is_hit j ∷ t) = true

-- what the steps on which a goal depends may add to its cost
abbrev pub full_charge : {V : Type 0} → Step V → ℕ
full_charge (Broken k v) = 3
full_charge (Hit j v) = 6

abbrev pub full_charges : {V : Type 0} → List (Step V) → ℕ
full_charges [] = 0
full_charges (x ∷ xs) = full_charge x + full_charges xs

-- a choice of the old store grows by a state of the new one, for at most n more; the operator that will join what was
-- found is counted with it
pub record Spends (old new : Stored) (chosen : ℕ → Bool) (before after : GoalState) (n : ℕ) : Type 0 where
  pub more : ℕ → Bool
  pub closed : IsClosed new more
  pub extends : (i : ℕ) → i < length old.terms → chosen i ≡ true → more i ≡ true
  pub has_state : HasState more after
  pub within : weight new more (length new.terms) + joining after.found ≤ weight old chosen (length old.terms) + joining before.found + n

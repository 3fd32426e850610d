-- Numbers of sets of conditions: they stay where steps come in, and each stands for one set.
use Rattle.std.proofs.Common.{◌≡◌, ℕ, zero, suc, ◌≤◌, ◌<◌, Bool, true, false, ◌||◌, List, [], ◌∷◌, ◌++◌, length, slice_get, Option, Some, None, refl, sym, ap, ◌∙◌, subst, arith}
use Rattle.std.specs.List.{list_any}
use Rattle.std.specs.Option.{unwrap_or}
use Rattle.std.proofs.lemmas.Option.{none-some}
use Rattle.stk_hits.specs.declared.condition_ids.ConditionId.{ConditionId}
use Rattle.stk_hits.specs.declared.hit_table.Step.{Step}
use Rattle.stk_hits.specs.Tables.{IsNumberOf, nothing, more, AreSteps, step_condition_id}

pub some_one : {A : Type 0} {a b : A} → Some a ≡ Some b → a ≡ b
some_one {A} {a} {b} h = ap (λ o. unwrap_or o a) h

-- steps that stay at their places
pub stays : {old new : List Step} {i : ℕ} {ms : List ConditionId} → ((j : ℕ) (s : Step) → slice_get old j ≡ Some s → slice_get new j ≡ Some s) → IsNumberOf old i ms → IsNumberOf new i ms
stays keep nothing = nothing
stays keep (more {i} {j} {x} {ms} n h) = more (stays keep n) (keep j _ h)

pub below : (xs : List Step) (j : ℕ) (s : Step) → slice_get xs j ≡ Some s → j < length xs
below [] j s h = absurd (none-some _ h)
below (x ∷ xs) zero s h = omega arith
below (x ∷ xs) (suc j) s h = let b = below xs j s h in omega arith

-- a set's number is at most the number of steps
pub within : {steps : List Step} {i : ℕ} {ms : List ConditionId} → IsNumberOf steps i ms → i ≤ length steps
within nothing = omega arith
within {steps = steps} (more {i} {j} {x} {ms} n h) = let b = below steps j _ h in omega arith

pub any_last : (test : ConditionId → Bool) (ms : List ConditionId) (x : ConditionId) → list_any test (ms ++ x ∷ []) ≡ list_any test ms || test x
any_last test [] x = by (test x)
  where
    by : (b : Bool) → b || false ≡ b
    by true = refl
    by false = refl
any_last test (m ∷ ms) x = ap (λ b. test m || b) (any_last test ms x) ∙ by (test m) (list_any test ms) (test x)
  where
    by : (a b c : Bool) → a || (b || c) ≡ (a || b) || c
    by true b c = refl
    by false b c = refl

-- What is known at a step back from a set: the set from which the step goes on has a number, and the set has one of
-- some conditions exactly where the step's is one or that set has one.
pub record IsBack (steps : List Step) (test : ConditionId → Bool) (s : Step) (ms : List ConditionId) : Type 0 where
  pub rest : List ConditionId
  pub number : IsNumberOf steps s.before rest
  pub is : list_any test ms ≡ list_any test rest || test (step_condition_id s)

pub back : {steps : List Step} {i : ℕ} {ms : List ConditionId} (test : ConditionId → Bool) (j : ℕ) (s : Step) → IsNumberOf steps i ms → i ≡ suc j → slice_get steps j ≡ Some s → IsBack steps test s ms
back test j s nothing e at = absurd (omega arith)
back {steps = steps} test j s (more {i} {j = k} {x} {ms} n h) e at =
    let same : k ≡ j = omega arith in
    let here : record { before = i; node = x.node; kind = x.kind } ≡ s = some_one (sym h ∙ (ap (slice_get steps) same ∙ at)) in
    subst (λ u. IsBack steps test u (ms ++ x ∷ [])) here (record { rest = ms; number = n; is = any_last test ms x })

-- the empty set's number is 0 alone
pub none_at : {steps : List Step} {i : ℕ} {ms : List ConditionId} (test : ConditionId → Bool) → IsNumberOf steps i ms → i ≤ 0 → list_any test ms ≡ false
none_at test nothing e = refl
none_at test (more n h) e = absurd (omega arith)

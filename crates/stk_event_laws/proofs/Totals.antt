-- Sums over lists and over what is visited, and what a node has at least.
use Rattle.std.proofs.Common.{◌≡◌, ℕ, ◌+◌, ◌≤◌, Bool, true, false, List, [], ◌∷◌, ◌++◌, Option, Some, None, refl, arith}
use Rattle.std.specs.Prelude.{map}
use Rattle.stk_numbers.specs.declared.conditions.CandKind.TheVariants.{Arm}
use Rattle.stk_meaning.specs.Typings.{Typing}
use Rattle.stk_meaning.specs.Replacements.{Replaced}
use Rattle.stk_meaning.specs.Places.{Setting}
use Rattle.stk_meaning.specs.Visits.{Visit, Visits, no_visit, one_visit, both_visits, scope, unevaluated, collected}
use Rattle.stk_meaning.specs.Lists.{visit_conditions, visit_candidates, arm_candidates, seen_candidates, replaced_candidates}
use Rattle.stk_walking.specs.declared.state.Event.{Event}
use Rattle.stk_walking.specs.declared.state.Event.TheVariants.{Broken, Hit}
use Rattle.stk_walking.specs.Events.{hit, truth_events, seen_events}

-- ---- lists

abbrev pub total : (Event → ℕ) → List Event → ℕ
total w [] = 0
total w (x ∷ xs) = w x + total w xs

pub total_append : (w : Event → ℕ) (a b : List Event) → total w (a ++ b) ≡ total w a + total w b
total_append w [] b = omega arith
total_append w (x ∷ a) b = let e = total_append w a b in omega arith

pub total_mapped : {A : Type 0} (w : Event → ℕ) (f : A → Event) (a b : List A) → total w (map f (a ++ b)) ≡ total w (map f a) + total w (map f b)
total_mapped w f [] b = omega arith
total_mapped w f (x ∷ a) b = let e = total_mapped w f a b in omega arith

pub joined : (w : Event → ℕ) (a b : List Event) (m n : ℕ) → total w a ≤ m → total w b ≤ n → total w (a ++ b) ≤ m + n
joined w a b m n p q = let e = total_append w a b in omega arith

-- ---- what a branch and a controlling expression add

abbrev pub armed : Bool → ℕ → List Event
armed true k = hit k Arm ∷ []
armed false k = []

abbrev pub tested : Bool → List Event → List Event
tested true xs = xs
tested false xs = []

abbrev pub hits_of : Typing → Visit → List Event
hits_of ty x = map (λ c. Hit c) (visit_candidates ty x)

pub arm_least : (w : Event → ℕ) (k : ℕ) (arm : Bool) → total w (armed arm k) ≤ total w (map (λ c. Hit c) (arm_candidates k arm))
arm_least w k true = omega arith
arm_least w k false = omega arith

pub paren_least : (w : Event → ℕ) (k : ℕ) (arm : Bool) → total w (armed arm k) ≤ total w (map (λ c. Hit c) (arm_candidates k arm ++ []))
paren_least w k true = omega arith
paren_least w k false = omega arith

pub seen_least : (w : Event → ℕ) (k : ℕ) (arm test : Bool) → total w (armed arm k) + total w (tested test (truth_events k)) ≤ total w (map (λ c. Hit c) (arm_candidates k arm ++ seen_candidates k test))
seen_least w k true true = omega arith
seen_least w k true false = omega arith
seen_least w k false true = omega arith
seen_least w k false false = omega arith

pub compared_least : (w : Event → ℕ) (k : ℕ) (arm test : Bool) (found : Option Replaced) → total w (armed arm k) + total w (tested test []) + total w (seen_events k found) ≤ total w (map (λ c. Hit c) (arm_candidates k arm ++ (seen_candidates k true ++ replaced_candidates k found)))
compared_least w k true true None = omega arith
compared_least w k true true (Some x) = omega arith
compared_least w k true false None = omega arith
compared_least w k true false (Some x) = omega arith
compared_least w k false true None = omega arith
compared_least w k false true (Some x) = omega arith
compared_least w k false false None = omega arith
compared_least w k false false (Some x) = omega arith

-- ---- what is listed of visits

module _ (g : Setting) (w : Event → ℕ) where
  abbrev pub visit_total : Visit → ℕ
  visit_total x = total w (map (λ c. Broken c) (visit_conditions g.typing g.without x)) + total w (hits_of g.typing x)

  abbrev pub visits_total : Visits → ℕ
  visits_total no_visit = 0
  visits_total (one_visit x) = visit_total x
  visits_total (both_visits a b) = visits_total a + visits_total b
  visits_total (scope ks a) = visits_total a
  visits_total (unevaluated a) = 0

  -- conditions and candidates apart
  pub collected_total : (v : Visits) → visits_total v ≡ total w (map (λ c. Broken c) (collected (visit_conditions g.typing g.without) v)) + total w (map (λ c. Hit c) (collected (visit_candidates g.typing) v))
  collected_total no_visit = refl
  collected_total (one_visit x) = refl
  collected_total (both_visits a b) =
      let p = collected_total a in
      let q = collected_total b in
      let m = total_mapped w (λ c. Broken c) (collected (visit_conditions g.typing g.without) a) (collected (visit_conditions g.typing g.without) b) in
      let n = total_mapped w (λ c. Hit c) (collected (visit_candidates g.typing) a) (collected (visit_candidates g.typing) b) in
      omega arith
  collected_total (scope ks a) = collected_total a
  collected_total (unevaluated a) = refl

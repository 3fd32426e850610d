-- The visits that are evaluated give what is collected.
use Rattle.std.proofs.Common.{◌≡◌, true, false, List, [], ◌∷◌, ◌++◌, refl, sym, ap, ◌∙◌, append_assoc, append-nil}
use Rattle.stk_meaning.specs.Visits.{Visit, Visits, no_visit, one_visit, both_visits, scope, unevaluated, collected}
use Rattle.stk_function_types.specs.Visits.{MarkedVisit, marked_visits}
use Rattle.stk_function_types.specs.Gathered.{given, gathered}

-- what visits in two rows give
pub gathered-append : {A : Type 0} (f : Visit → List A) (a b : List MarkedVisit) → gathered f (a ++ b) ≡ gathered f a ++ gathered f b
gathered-append f [] b = refl
gathered-append f (m ∷ a) b = ap (λ xs. given f m ++ xs) (gathered-append f a b) ∙ sym (append_assoc (given f m) (gathered f a) (gathered f b))

-- what isn't evaluated gives nothing
pub gathered-unevaluated : {A : Type 0} (f : Visit → List A) (v : Visits) → gathered f (marked_visits false v) ≡ []
gathered-unevaluated f no_visit = refl
gathered-unevaluated f (one_visit x) = refl
gathered-unevaluated f (both_visits a b) =
    gathered-append f (marked_visits false a) (marked_visits false b) ∙ ap (λ xs. xs ++ gathered f (marked_visits false b)) (gathered-unevaluated f a) ∙ gathered-unevaluated f b
gathered-unevaluated f (scope ks a) = gathered-unevaluated f a
gathered-unevaluated f (unevaluated a) = gathered-unevaluated f a

-- what the visits in order give is what is collected
pub gathered-marked_visits : {A : Type 0} (f : Visit → List A) (v : Visits) → gathered f (marked_visits true v) ≡ collected f v
gathered-marked_visits f no_visit = refl
gathered-marked_visits f (one_visit x) = append-nil (f x)
gathered-marked_visits f (both_visits a b) =
    gathered-append f (marked_visits true a) (marked_visits true b) ∙ ap (λ xs. xs ++ gathered f (marked_visits true b)) (gathered-marked_visits f a) ∙ ap (λ xs. collected f a ++ xs) (gathered-marked_visits f b)
gathered-marked_visits f (scope ks a) = gathered-marked_visits f a
gathered-marked_visits f (unevaluated a) = gathered-unevaluated f a

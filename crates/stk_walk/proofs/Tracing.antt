-- What a walk that has come to its end says of the trace of the run.
use Rattle.std.proofs.Common.{◌≡◌, ◌∙◌, true, List, [], ◌∷◌, ◌++◌, map, drop, get_or, refl, sym, ap, subst, inl, inr}
use Rattle.stk_ctype.specs.declared.kind.IntKind.{IntKind}
use Rattle.stk_ctype.specs.declared.kind.IntKind.TheVariants.{Int}
use Rattle.stk_numbers.specs.declared.conditions.Candidate.{Candidate}
use Rattle.stk_tree.specs.Syntax.{FunctionTree}
use Rattle.stk_numbers.specs.declared.conditions.Kinds.{Kinds}
use Rattle.stk_meaning.specs.Typings.{Typing}
use Rattle.stk_meaning.specs.Lists.{candidates}
use Rattle.stk_meaning.specs.declared.entry.Entry.{Entry}
use Rattle.stk_meaning.specs.Worlds.{Ran, Went, Cut, Flow, Normal, Break, Continue, Return, trace_of}
use Rattle.stk_meaning.specs.Paths.{KeptNumbers}
use Rattle.stk_run_laws.specs.Visits.{IsIn}
use Rattle.stk_guarded.specs.Standing.{Standing}
use Rattle.stk_guarded.specs.Statements.{Flows, FlowEnds}
use Rattle.stk_values.specs.declared.walked.Step.{Step}
use Rattle.stk_values.specs.Walks.{test_of, EachTest}
use Rattle.stk_walking.specs.declared.state.Event.{Event}
use Rattle.stk_walking.specs.declared.state.Event.TheVariants.{Broken, Hit}
use Rattle.stk_walking.specs.declared.state.GuardedEvent.{GuardedEvent}
use Rattle.stk_walking.specs.Stands.{StepsMade}
use Rattle.stk_event_laws.specs.Listed.{IsListedEvent}
use Rattle.stk_walk.specs.Steps.{IsHitIn, AreHitsIn}

none_before : (es t u : List Entry) → t ≡ es ++ u → es ≡ [] → t ≡ u
none_before es t u e h = e ∙ ap (λ z. z ++ u) h

of_ends : (run : Ran Flow KeptNumbers) (s t : Standing) → FlowEnds [] run s t → s.entries ≡ [] → t.entries ≡ trace_of run
of_ends (Went Normal r m u) s t h e = none_before s.entries t.entries u (ap (λ (z : Standing). z.entries) h) e
of_ends (Went Break r m u) s t h e = none_before s.entries t.entries u h.entries e
of_ends (Went Continue r m u) s t h e = none_before s.entries t.entries u h.entries e
of_ends (Went Return r m u) s t h e = none_before s.entries t.entries u h.entries e
of_ends (Cut u) s t h e = none_before s.entries t.entries u h.entries e

-- the entries of a walk that began with none are the trace of the run
pub trace_is : (run : Ran Flow KeptNumbers) (s t : Standing) → Flows [] run s t → s.alive ≡ true → s.entries ≡ [] → t.entries ≡ trace_of run
trace_is run s t h a e = of_ends run s t (h.on a) e

hits_in : (cs : List Candidate) (xs : List Event) → ((x : Event) → IsIn x xs → IsHitIn cs x) → AreHitsIn cs xs
hits_in cs [] h = tt
hits_in cs (x ∷ xs) h = (h x (inl refl), hits_in cs xs (λ y i. h y (inr i)))

hit_of : (ty : Typing) (without : Kinds) (f : FunctionTree) (x : Event) → IsListedEvent ty without f x → IsHitIn (candidates ty f) x
hit_of ty without f (Broken k) h = tt
hit_of ty without f (Hit c) h = h

pub listed_hits : (ty : Typing) (without : Kinds) (f : FunctionTree) (xs : List Event) → ((x : Event) → IsIn x xs → IsListedEvent ty without f x) → AreHitsIn (candidates ty f) xs
listed_hits ty without f xs h = hits_in (candidates ty f) xs (λ x i. hit_of ty without f x (h x i))

same_first : {A : Type 0} (x y : A) (xs ys : List A) → x ∷ xs ≡ y ∷ ys → x ≡ y
same_first x y xs ys e = ap (λ z. get_or z 0 x) e

same_rest : {A : Type 0} (x y : A) (xs ys : List A) → x ∷ xs ≡ y ∷ ys → xs ≡ ys
same_rest x y xs ys e = ap (drop 1) e

-- the tests of steps with positions are those of the steps
pub tests_made : {V : Type 0} (made : IntKind → V → Type 0) (xs : List (GuardedEvent V)) (ys : List (Step V)) → map (λ y. test_of y) ys ≡ map (λ x. x.test) xs → StepsMade made xs → EachTest (made Int) ys
tests_made made xs [] e h = tt
tests_made made [] (y ∷ ys) e h = absurd cc
tests_made made (x ∷ xs) (y ∷ ys) e h =
    let first = same_first (test_of y) x.test (map (λ z. test_of z) ys) (map (λ z. z.test) xs) e in
    let rest = same_rest (test_of y) x.test (map (λ z. test_of z) ys) (map (λ z. z.test) xs) e in
    (subst (made Int) (sym first) h.0, tests_made made xs ys rest h.1)

pub joined : {A : Type 0} (xs ys zs : List A) → (xs ++ ys) ++ zs ≡ xs ++ (ys ++ zs)
joined [] ys zs = refl
joined (x ∷ xs) ys zs = ap (λ z. x ∷ z) (joined xs ys zs)

pub with_none : {A : Type 0} (xs : List A) → xs ++ [] ≡ xs
with_none [] = refl
with_none (x ∷ xs) = ap (λ z. x ∷ z) (with_none xs)

pub mapped : {A B : Type 0} (f : A → B) (xs ys : List A) → map f (xs ++ ys) ≡ map f xs ++ map f ys
mapped f [] ys = refl
mapped f (x ∷ xs) ys = ap (λ z. f x ∷ z) (mapped f xs ys)

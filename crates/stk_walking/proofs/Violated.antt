-- The events of tests one after another.
use Rattle.std.proofs.Common.{◌≡◌, ℕ, Bool, true, false, not, ◌&&◌, if◌then◌else◌, List, [], ◌∷◌, ◌++◌, ℤ, refl, sym, ap, ◌∙◌, append_assoc}
use Rattle.std.proofs.lemmas.List.{append-nil}
use Rattle.stk_numbers.specs.declared.conditions.Kinds.{Kinds}
use Rattle.stk_numbers.specs.Taken.{is_taken}
use Rattle.stk_meaning.specs.declared.entry.Entry.{Entry}
use Rattle.stk_meaning.specs.declared.entry.Entry.TheVariants.{Ub}
use Rattle.stk_tree.specs.Syntax.{ExprFormTree}
use Rattle.stk_meaning.specs.Operations.{Test}
use Rattle.stk_meaning.specs.Conditions.{violated, form_tests}
use Rattle.stk_meaning.specs.Places.{Setting}
use Rattle.stk_meaning.specs.Expressions.{breaks}
use Rattle.stk_walking.specs.declared.state.Event.{Event}
use Rattle.stk_walking.specs.declared.state.Event.TheVariants.{Broken}
use Rattle.stk_walking.specs.Events.{one_if, events_of}
use Rattle.stk_walking.specs.NodeTests.{kept_of, test_events}
use Rattle.stk_walking.proofs.Carried.{events_append}

pub kept_is : (w : Kinds) (t : Test) → is_taken w t.kind ≡ false → kept_of w (t ∷ []) ≡ t ∷ []
kept_is w t e = ap (λ b. if not b then t ∷ [] else []) e

pub none_kept : (w : Kinds) (t : Test) → is_taken w t.kind ≡ true → kept_of w (t ∷ []) ≡ []
none_kept w t e = ap (λ b. if not b then t ∷ [] else []) e

kept_one : (b : Bool) (t : Test) (whole ts us : List Test) → whole ≡ ts ++ us → (if not b then t ∷ whole else whole) ≡ (if not b then t ∷ ts else ts) ++ us
kept_one true t whole ts us e = e
kept_one false t whole ts us e = ap (λ xs. t ∷ xs) e

pub kept_append : (w : Kinds) (ts us : List Test) → kept_of w (ts ++ us) ≡ kept_of w ts ++ kept_of w us
kept_append w [] us = refl
kept_append w (t ∷ ts) us = kept_one (is_taken w t.kind) t (kept_of w (ts ++ us)) (kept_of w ts) (kept_of w us) (kept_append w ts us)

violated_append : (n : ℕ) (ts us : List Test) (x y z : ℤ) → violated n (ts ++ us) x y z ≡ violated n ts x y z ++ violated n us x y z
violated_append n [] us x y z = refl
violated_append n (t ∷ ts) us x y z =
    ap (λ e. (if t.broken x y z then Ub (record { node = n; kind = t.kind }) ∷ [] else []) ++ e) (violated_append n ts us x y z)
    ∙ sym (append_assoc (if t.broken x y z then Ub (record { node = n; kind = t.kind }) ∷ [] else []) (violated n ts x y z) (violated n us x y z))

-- the events of one test, under a guard
pub one_event : (n : ℕ) (t : Test) (x y z : ℤ) (g : Bool) → one_if (g && t.broken x y z) (Broken (record { node = n; kind = t.kind })) ≡ (if g then events_of (violated n (t ∷ []) x y z) else [])
one_event n t x y z false = refl
one_event n t x y z true = by (t.broken x y z)
  where
    by : (b : Bool) → one_if b (Broken (record { node = n; kind = t.kind })) ≡ events_of ((if b then Ub (record { node = n; kind = t.kind }) ∷ [] else []) ++ [])
    by true = refl
    by false = refl

under_append : (g : Bool) (a b : List Entry) → (if g then events_of a else []) ++ (if g then events_of b else []) ≡ (if g then events_of (a ++ b) else [])
under_append true a b = sym (events_append a b)
under_append false a b = refl

-- two lists of tests, one after the other
pub both_violated : (w : Kinds) (n : ℕ) (ts us : List Test) (x y z : ℤ) (g : Bool) (t : List Event) →
    (t ++ (if g then events_of (violated n (kept_of w ts) x y z) else [])) ++ (if g then events_of (violated n (kept_of w us) x y z) else []) ≡ t ++ (if g then events_of (violated n (kept_of w (ts ++ us)) x y z) else [])
both_violated w n ts us x y z g t =
    append_assoc t (if g then events_of (violated n (kept_of w ts) x y z) else []) (if g then events_of (violated n (kept_of w us) x y z) else [])
    ∙ ap (λ e. t ++ e) (under_append g (violated n (kept_of w ts) x y z) (violated n (kept_of w us) x y z)
    ∙ ap (λ e. if g then events_of e else []) (sym (violated_append n (kept_of w ts) (kept_of w us) x y z) ∙ ap (λ l. violated n l x y z) (sym (kept_append w ts us))))

test_events_append : (n : ℕ) (ts us : List Test) → test_events n (ts ++ us) ≡ test_events n ts ++ test_events n us
test_events_append n [] us = refl
test_events_append n (t ∷ ts) us = ap (λ e. Broken (record { node = n; kind = t.kind }) ∷ e) (test_events_append n ts us)

pub both_events : (w : Kinds) (n : ℕ) (ts us : List Test) (t : List Event) → (t ++ test_events n (kept_of w ts)) ++ test_events n (kept_of w us) ≡ t ++ test_events n (kept_of w (ts ++ us))
both_events w n ts us t =
    append_assoc t (test_events n (kept_of w ts)) (test_events n (kept_of w us))
    ∙ ap (λ e. t ++ e) (sym (test_events_append n (kept_of w ts) (kept_of w us)) ∙ ap (test_events n) (sym (kept_append w ts us)))

-- what is violated under a guard, in the entries of a standing
pub events_violated : (g : Bool) (t a : List Entry) → events_of t ++ (if g then events_of a else []) ≡ events_of (t ++ (if g then a else []))
events_violated true t a = sym (events_append t a)
events_violated false t a = append-nil (events_of t) ∙ ap events_of (sym (append-nil t))

-- the same of what is asked of a form at a node
pub events_broken : (G : Setting) (w : Kinds) (n : ℕ) (ts : List Test) (accessed : Bool) (f : ExprFormTree) (x y z : ℤ) (g : Bool) (t : List Entry) → w ≡ G.without → form_tests G.typing accessed f ≡ ts →
    events_of t ++ (if g then events_of (violated n (kept_of w ts) x y z) else []) ≡ events_of (t ++ (if g then breaks G n accessed f x y z else []))
events_broken G w n ts accessed f x y z g t e h =
    events_violated g t (violated n (kept_of w ts) x y z)
    ∙ ap (λ l. events_of (t ++ (if g then violated n l x y z else []))) (ap (λ v. kept_of v ts) e ∙ ap (kept_of G.without) (sym h))

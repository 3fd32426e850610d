-- Which reserved words and punctuators begin with a byte.
use Rattle.std.proofs.Common.{◌≡◌, ◌≢◌, ◌∙◌, ◌<◌, ◌∷◌, ◌||◌, ℕ, zero, suc, Bool, true, false, cond, List, [], Option, Some, None, IfNone, length, get_or, nat_eq, refl, sym, ap, arith}
use Rattle.std.specs.List.{filter, list_all, list_any}
use Rattle.std.proofs.lemmas.Bool.{eqb-true, eq-eqb, ne_eqb, and_parts}
use Rattle.stk_tree.specs.Spelling.{begins, every, spelling_of}
use Rattle.stk_tree.specs.declared.fixed.Fixed.{Fixed}
use Rattle.stk_tree.proofs.Every.{place, stands, stands_before}

-- the bytes with which words and punctuators begin
abbrev firsts : List ℕ
firsts =
    97 ∷ 98 ∷ 99 ∷ 100 ∷ 101 ∷ 102 ∷ 103 ∷ 105 ∷ 108 ∷ 114 ∷ 115 ∷ 116 ∷ 117 ∷ 118 ∷
    119 ∷ 95 ∷ 91 ∷ 93 ∷ 40 ∷ 41 ∷ 123 ∷ 125 ∷ 46 ∷ 45 ∷ 43 ∷ 38 ∷ 42 ∷ 126 ∷
    33 ∷ 47 ∷ 37 ∷ 60 ∷ 62 ∷ 61 ∷ 94 ∷ 124 ∷ 63 ∷ 58 ∷ 59 ∷ 44 ∷ []

-- whether a word or a punctuator begins with one of these bytes
abbrev starts_in : List ℕ → Fixed → Bool
starts_in bytes f = list_any (nat_eq (get_or (spelling_of f) 0 0)) bytes

every_start : list_all (starts_in firsts) every ≡ true
every_start = refl

-- a byte differs from each of some bytes
abbrev Differs : ℕ → List ℕ → Type 0
Differs b [] = Unit
Differs b (j ∷ js) = (b ≢ j) × Differs b js

other_step : (b k j : ℕ) (js : List ℕ) (t : Bool) → nat_eq k j ≡ t → b ≢ j → (list_any (nat_eq k) js ≡ true → nat_eq k b ≡ false) → (t || list_any (nat_eq k) js) ≡ true → nat_eq k b ≡ false
other_step b k j js true same apart behind found = ne_eqb k b (λ q. apart (sym q ∙ eqb-true k j same))
other_step b k j js false same apart behind found = behind found

-- a byte that differs from each of some bytes isn't one of them
other : (b k : ℕ) (js : List ℕ) → Differs b js → list_any (nat_eq k) js ≡ true → nat_eq k b ≡ false
other b k [] apart found = cc
other b k (j ∷ js) (apart, behind) found = other_step b k j js (nat_eq k j) refl apart (other b k js behind) found

none_kept : (b : ℕ) (fs : List Fixed) → Differs b firsts → list_all (starts_in firsts) fs ≡ true → [] ≡ filter (begins b) fs
none_kept b [] apart start = refl
none_kept b (f ∷ fs) apart start =
    let parts = and_parts (starts_in firsts f) (list_all (starts_in firsts) fs) start in
    rw (other b (get_or (spelling_of f) 0 0) firsts apart parts.0) (none_kept b fs apart parts.1)

-- no word or punctuator begins with another byte
pub none_begins : (b : ℕ) → Differs b firsts → [] ≡ filter (begins b) every
none_begins b apart = none_kept b every apart every_start

-- an element stands in a list
abbrev StandsIn : {X : Type 0} → List X → X → Type 0
StandsIn xs x = (k : ℕ) × (k < length xs) × (get_or xs k x ≡ x)

stands_behind : {X : Type 0} (p : X → Bool) (y x : X) (ys : List X) (b : Bool) → StandsIn ys x → StandsIn (cond b (y ∷ ys) ys) x
stands_behind p y x ys true (k, below, is) = (suc k, omega (arith, below), is)
stands_behind p y x ys false at = at

-- a filter keeps each element that passes its test
kept : {X : Type 0} (p : X → Bool) (xs : List X) (x : X) (k : ℕ) → k < length xs → get_or xs k x ≡ x → p x ≡ true → StandsIn (filter p xs) x
kept p [] x k below is passes = absurd (omega (arith, below))
kept p (y ∷ ys) x zero below is passes = rw is (rw passes (zero, omega arith, refl))
kept p (y ∷ ys) x (suc k) below is passes = stands_behind p y x (filter p ys) (p y) (kept p ys x k (omega (arith, below)) is passes)

-- what none of those that begin with a text's first byte has as its text, no word or punctuator has
pub missed : (list : List Fixed) (text : List ℕ) (r : Option Fixed) → list ≡ filter (begins (get_or text 0 0)) every →
    IfNone r ((k : ℕ) (other : Fixed) → k < length list → spelling_of (get_or list k other) ≢ text) → IfNone r ((f : Fixed) → spelling_of f ≢ text)
missed list text None e p = λ f q.
    let begun = eq-eqb _ _ (ap (λ t. get_or t 0 0) q) in
    let at = kept (begins (get_or text 0 0)) every f (place f) (stands_before f) (stands f f) begun in
    p at.0 f (rw e at.1) (rw e (ap spelling_of at.2 ∙ q))
missed list text (Some g) e p = p

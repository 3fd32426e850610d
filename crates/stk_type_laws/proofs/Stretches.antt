-- Facts from a position on, and the parts of an outcome that is good.
use Rattle.std.proofs.Common.{◌≡◌, ◌<◌, ◌+◌, ℕ, suc, List, [], ◌∷◌, ◌++◌, length, refl, sym, ap, ◌∙◌, subst, arith, length-append, append_assoc, append-nil}
use Rattle.stk_type_rules.specs.Facts.{Fact, fact_at, Ruled, Breaks, Fits}
use Rattle.stk_type_rules.specs.Outcome.{Outcome, Good, Refused, after, and_then, finish}
use Rattle.stk_type_rules.proofs.Steps.{at_front}

-- ---- facts from a position on

-- the facts of a part stand among all from a position on
pub record Stand (all : List Fact) (n : ℕ) (part : List Fact) : Type 0 where
  pub at : (i : ℕ) → i < length part → fact_at all (n + i) ≡ fact_at part i

at_behind : (fs gs : List Fact) (i : ℕ) → fact_at (fs ++ gs) (length fs + i) ≡ fact_at gs i
at_behind [] gs i = let same : 0 + i ≡ i = omega arith in ap (fact_at gs) same
at_behind (f ∷ fs) gs i = let same : suc (length fs) + i ≡ suc (length fs + i) = omega arith in ap (fact_at (f ∷ fs ++ gs)) same ∙ at_behind fs gs i

pub all_stand : (all : List Fact) → Stand all 0 all
all_stand all = record { at = λ i l. let same : 0 + i ≡ i = omega arith in ap (fact_at all) same }

pub first_stands : (all : List Fact) (n : ℕ) (whole a b : List Fact) → whole ≡ a ++ b → Stand all n whole → Stand all n a
first_stands all n whole a b same s =
    let t : Stand all n (a ++ b) = subst (Stand all n) same s in
    record { at = λ i l. t.at i (omega (arith, l, length-append a b)) ∙ at_front a b i l }

pub rest_stands : (all : List Fact) (n m : ℕ) (whole a b : List Fact) → whole ≡ a ++ b → length a ≡ m → Stand all n whole → Stand all (n + m) b
rest_stands all n m whole a b same count s =
    let t : Stand all n (a ++ b) = subst (Stand all n) same s in
    record {
      at = λ i l.
          let place : n + m + i ≡ n + (length a + i) = omega (arith, count) in
          ap (fact_at all) place ∙ t.at (length a + i) (omega (arith, l, length-append a b)) ∙ at_behind a b i;
    }

-- the last fact of a part
pub last_stands : (all : List Fact) (n m : ℕ) (whole a : List Fact) (x : Fact) → whole ≡ a ++ x ∷ [] → length whole ≡ m + 1 → Stand all n whole → fact_at all (n + m) ≡ x
last_stands all n m whole a x same count s =
    let t : Stand all n (a ++ x ∷ []) = subst (Stand all n) same s in
    let lengths : length (a ++ x ∷ []) ≡ m + 1 = ap length (sym same) ∙ count in
    let place : n + m ≡ n + (length a + 0) = omega (arith, lengths, length-append a (x ∷ [])) in
    ap (fact_at all) place ∙ t.at (length a + 0) (omega (arith, length-append a (x ∷ []))) ∙ at_behind a (x ∷ []) 0

-- ---- outcomes that are good

-- what the first part gives, and the rest
pub record Steps {A B : Type 0} (o : Outcome A) (f : A → Outcome B) (y : B) (ts : List Fact) : Type 0 where
  pub value : A
  pub first : List Fact
  pub rest : List Fact
  pub gives : o ≡ Good value first
  pub then : f value ≡ Good y rest
  pub all : ts ≡ first ++ rest

pub record Afters {B : Type 0} (t : List Fact) (o : Outcome B) (y : B) (ts : List Fact) : Type 0 where
  pub rest : List Fact
  pub gives : o ≡ Good y rest
  pub all : ts ≡ t ++ rest

facts_in : {A : Type 0} → List Fact → Outcome A → List Fact
facts_in d (Good x t) = t
facts_in d (Refused n r) = d

value_in : {A : Type 0} → A → Outcome A → A
value_in d (Good x t) = x
value_in d (Refused n r) = d

good_value : {A : Type 0} (x y : A) (t u : List Fact) → Good x t ≡ Good y u → x ≡ y
unfolding value_in
good_value x y t u e = ap (value_in x) e

good_facts : {A : Type 0} (x y : A) (t u : List Fact) → Good x t ≡ Good y u → t ≡ u
unfolding facts_in
good_facts x y t u e = ap (facts_in t) e

is_good : {A : Type 0} → Outcome A → Type 0
is_good (Good x t) = Unit {0}
is_good (Refused n r) = ⊥

pub not_refused : {A : Type 0} (n r : ℕ) (y : A) (u : List Fact) → Refused n r ≡ Good y u → ⊥
unfolding is_good
not_refused n r y u e = subst is_good (sym e) tt

afters : {B : Type 0} (t : List Fact) (o : Outcome B) (y : B) (ts : List Fact) → after t o ≡ Good y ts → Afters t o y ts
afters t (Good z u) y ts e = record { rest = u; gives = ap (λ w. Good w u) (good_value z y (t ++ u) ts e); all = sym (good_facts z y (t ++ u) ts e) }
afters t (Refused n r) y ts e = absurd (not_refused n r y ts e)

pub steps : {A B : Type 0} (o : Outcome A) (f : A → Outcome B) (y : B) (ts : List Fact) → and_then o f ≡ Good y ts → Steps o f y ts
steps (Good x t) f y ts e = let a = afters t (f x) y ts e in record { value = x; first = t; rest = a.rest; gives = refl; then = a.gives; all = a.all }
steps (Refused n r) f y ts e = absurd (not_refused n r y ts e)

-- a node of its own
pub record Own (r : Ruled) (y : Fact) (ts : List Fact) : Type 0 where
  pub rule : r ≡ Fits y
  pub all : ts ≡ y ∷ []

pub finished : (k : ℕ) (r : Ruled) (y : Fact) (ts : List Fact) → finish k r ≡ Good y ts → Own r y ts
finished k (Breaks n) y ts e = absurd (not_refused k n y ts e)
finished k (Fits x) y ts e = let same = good_value x y (x ∷ []) ts e in record { rule = ap Fits same; all = sym (good_facts x y (x ∷ []) ts e) ∙ ap (λ w. w ∷ []) same }

pub record Given {A : Type 0} (x y : A) (t ts : List Fact) : Type 0 where
  pub value : x ≡ y
  pub all : ts ≡ t

pub given : {A : Type 0} (x y : A) (t ts : List Fact) → Good x t ≡ Good y ts → Given x y t ts
given x y t ts e = record { value = good_value x y t ts e; all = sym (good_facts x y t ts e) }

-- ---- how many facts there are

-- an outcome that is good has so many facts
pub record Counts {A : Type 0} (o : Outcome A) (m : ℕ) : Type 0 where
  pub by : (x : A) (ts : List Fact) → o ≡ Good x ts → length ts ≡ m

pub counts_then : {A B : Type 0} (o : Outcome A) (f : A → Outcome B) (m p q : ℕ) → m + p ≡ q → Counts o m → ((v : A) → Counts (f v) p) → Counts (and_then o f) q
counts_then o f m p q same c d = record {
  by = λ x ts e.
      let a = steps o f x ts e in
      let first : length a.first ≡ m = c.by a.value a.first a.gives in
      let rest : length a.rest ≡ p = (d a.value).by x a.rest a.then in
      let whole : length ts ≡ length a.first + length a.rest = ap length a.all ∙ length-append a.first a.rest in
      omega (arith, first, rest, whole, same);
}

pub counts_own : (k : ℕ) (r : Ruled) → Counts (finish k r) 1
counts_own k r = record { by = λ x ts e. ap length (finished k r x ts e).all }

pub counts_given : {A : Type 0} (x : A) (t : List Fact) (m : ℕ) → length t ≡ m → Counts (Good x t) m
counts_given x t m count = record { by = λ y ts e. ap length (given x y t ts e).all ∙ count }

pub counts_refused : {A : Type 0} (o : Outcome A) (n r m : ℕ) → o ≡ Refused n r → Counts o m
counts_refused o n r m refused = record { by = λ y ts e. absurd (not_refused n r y ts (sym refused ∙ e)) }

pub counts_as : {A : Type 0} {o : Outcome A} {m p : ℕ} → m ≡ p → Counts o m → Counts o p
counts_as {o = o} same c = subst (Counts o) same c

pub counts_one : {A : Type 0} {o : Outcome A} {m : ℕ} (k : ℕ) (r : A → Ruled) → Counts o m → Counts (and_then o (λ x. finish k (r x))) (m + 1)
counts_one {o = o} {m = m} k r c = counts_then o (λ x. finish k (r x)) m 1 (m + 1) refl c (λ x. counts_own k (r x))

pub counts_two : {A B : Type 0} {o : Outcome A} {p : Outcome B} {m n : ℕ} (k : ℕ) (r : A → B → Ruled) → Counts o m → Counts p n → Counts (and_then o (λ x. and_then p (λ y. finish k (r x y)))) (m + n + 1)
counts_two {o = o} {p = p} {m = m} {n = n} k r c d = counts_then o (λ x. and_then p (λ y. finish k (r x y))) m (n + 1) (m + n + 1) (omega arith) c (λ x. counts_one k (r x) d)

pub counts_three : {A B C : Type 0} {o : Outcome A} {p : Outcome B} {q : Outcome C} {m n l : ℕ} (k : ℕ) (r : A → B → C → Ruled) → Counts o m → Counts p n → Counts q l
    → Counts (and_then o (λ x. and_then p (λ y. and_then q (λ z. finish k (r x y z))))) (m + n + l + 1)
counts_three {o = o} {p = p} {q = q} {m = m} {n = n} {l = l} k r c d e =
    counts_then o (λ x. and_then p (λ y. and_then q (λ z. finish k (r x y z)))) m (n + l + 1) (m + n + l + 1) (omega arith) c (λ x. counts_two k (r x) d e)

-- a value that is made of what the parts give
pub counts_mapped : {A B : Type 0} {o : Outcome A} {m : ℕ} (g : A → B) → Counts o m → Counts (and_then o (λ x. Good (g x) [])) m
counts_mapped {o = o} {m = m} g c = counts_then o (λ x. Good (g x) []) m 0 m (omega arith) c (λ x. counts_given (g x) [] 0 refl)

pub counts_joined : {A B C : Type 0} {o : Outcome A} {p : Outcome B} {m n : ℕ} (g : A → B → C) → Counts o m → Counts p n → Counts (and_then o (λ x. and_then p (λ y. Good (g x y) []))) (m + n)
counts_joined {o = o} {p = p} {m = m} {n = n} g c d = counts_then o (λ x. and_then p (λ y. Good (g x y) [])) m n (m + n) refl c (λ x. counts_mapped (g x) d)

-- ---- a node behind its operands, where the whole is good

pub record One {A : Type 0} (o : Outcome A) (r : A → Ruled) (y : Fact) (ts : List Fact) : Type 0 where
  pub value : A
  pub first : List Fact
  pub gives : o ≡ Good value first
  pub rule : r value ≡ Fits y
  pub all : ts ≡ first ++ y ∷ []

pub one : {A : Type 0} (o : Outcome A) (r : A → Ruled) (k : ℕ) (y : Fact) (ts : List Fact) → and_then o (λ x. finish k (r x)) ≡ Good y ts → One o r y ts
one o r k y ts e =
    let a = steps o (λ x. finish k (r x)) y ts e in
    let b = finished k (r a.value) y a.rest a.then in
    record { value = a.value; first = a.first; gives = a.gives; rule = b.rule; all = a.all ∙ ap (λ w. a.first ++ w) b.all }

pub record Two {A B : Type 0} (o : Outcome A) (p : Outcome B) (r : A → B → Ruled) (y : Fact) (ts : List Fact) : Type 0 where
  pub value : A
  pub first : List Fact
  pub gives : o ≡ Good value first
  pub rest : List Fact
  pub then : One p (r value) y rest
  pub all : ts ≡ first ++ rest

pub two : {A B : Type 0} (o : Outcome A) (p : Outcome B) (r : A → B → Ruled) (k : ℕ) (y : Fact) (ts : List Fact) → and_then o (λ x. and_then p (λ z. finish k (r x z))) ≡ Good y ts → Two o p r y ts
two o p r k y ts e =
    let a = steps o (λ x. and_then p (λ z. finish k (r x z))) y ts e in
    record { value = a.value; first = a.first; gives = a.gives; rest = a.rest; then = one p (r a.value) k y a.rest a.then; all = a.all }

pub record Three {A B C : Type 0} (o : Outcome A) (p : Outcome B) (q : Outcome C) (r : A → B → C → Ruled) (y : Fact) (ts : List Fact) : Type 0 where
  pub value : A
  pub first : List Fact
  pub gives : o ≡ Good value first
  pub rest : List Fact
  pub then : Two p q (r value) y rest
  pub all : ts ≡ first ++ rest

pub three : {A B C : Type 0} (o : Outcome A) (p : Outcome B) (q : Outcome C) (r : A → B → C → Ruled) (k : ℕ) (y : Fact) (ts : List Fact)
    → and_then o (λ x. and_then p (λ z. and_then q (λ w. finish k (r x z w)))) ≡ Good y ts → Three o p q r y ts
three o p q r k y ts e =
    let a = steps o (λ x. and_then p (λ z. and_then q (λ w. finish k (r x z w)))) y ts e in
    record { value = a.value; first = a.first; gives = a.gives; rest = a.rest; then = two p q (r a.value) k y a.rest a.then; all = a.all }

-- a value that is made of what a part gives
pub record Mapped {A B : Type 0} (o : Outcome A) (g : A → B) (y : B) (ts : List Fact) : Type 0 where
  pub value : A
  pub gives : o ≡ Good value ts
  pub is : g value ≡ y

pub mapped : {A B : Type 0} (o : Outcome A) (g : A → B) (y : B) (ts : List Fact) → and_then o (λ x. Good (g x) []) ≡ Good y ts → Mapped o g y ts
mapped o g y ts e =
    let a = steps o (λ x. Good (g x) []) y ts e in
    let b = given (g a.value) y [] a.rest a.then in
    record { value = a.value; gives = a.gives ∙ ap (Good a.value) (sym (append-nil a.first) ∙ ap (λ w. a.first ++ w) (sym b.all) ∙ sym a.all); is = b.value }

-- ---- the last fact is the node's own

pub record LastOf (x : Fact) (ts : List Fact) : Type 0 where
  pub before : List Fact
  pub all : ts ≡ before ++ x ∷ []

pub record Ends (o : Outcome Fact) : Type 0 where
  pub by : (x : Fact) (ts : List Fact) → o ≡ Good x ts → LastOf x ts

pub ends_own : (k : ℕ) (r : Ruled) → Ends (finish k r)
ends_own k r = record { by = λ x ts e. record { before = []; all = (finished k r x ts e).all } }

pub ends_then : {A : Type 0} (o : Outcome A) (f : A → Outcome Fact) → ((v : A) → Ends (f v)) → Ends (and_then o f)
ends_then o f d = record {
  by = λ x ts e.
      let a = steps o f x ts e in
      let l = (d a.value).by x a.rest a.then in
      record { before = a.first ++ l.before; all = a.all ∙ ap (λ w. a.first ++ w) l.all ∙ sym (append_assoc a.first l.before (x ∷ [])) };
}

pub ends_one : {A : Type 0} (o : Outcome A) (k : ℕ) (r : A → Ruled) → Ends (and_then o (λ x. finish k (r x)))
ends_one o k r = ends_then o (λ x. finish k (r x)) (λ x. ends_own k (r x))

pub ends_two : {A B : Type 0} (o : Outcome A) (p : Outcome B) (k : ℕ) (r : A → B → Ruled) → Ends (and_then o (λ x. and_then p (λ y. finish k (r x y))))
ends_two o p k r = ends_then o (λ x. and_then p (λ y. finish k (r x y))) (λ x. ends_one p k (r x))

pub ends_three : {A B C : Type 0} (o : Outcome A) (p : Outcome B) (q : Outcome C) (k : ℕ) (r : A → B → C → Ruled) → Ends (and_then o (λ x. and_then p (λ y. and_then q (λ z. finish k (r x y z)))))
ends_three o p q k r = ends_then o (λ x. and_then p (λ y. and_then q (λ z. finish k (r x y z)))) (λ x. ends_two p q k (r x))

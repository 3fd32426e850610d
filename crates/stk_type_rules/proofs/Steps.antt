-- How the answers of parts make the answer of the whole.
use Rattle.std.proofs.Common.{ℕ, ◌≡◌, ◌<◌, List, [], ◌∷◌, ◌++◌, length, refl, ap, subst, ◌∙◌, arith, length-append, append_assoc, Result, Ok, Err, zero, suc}
use Rattle.stk_type_rules.specs.declared.untyped.Untyped.{Untyped}
use Rattle.stk_type_rules.specs.declared.untyped.Untyped.TheVariants.{Rule, NoMemory}
use Rattle.stk_type_rules.specs.Facts.{Fact, fact_at, Ruled}
use Rattle.stk_type_rules.specs.Outcome.{Outcome, Good, Refused, after, and_then, finish, IsAt, Gives}

-- want of memory is always an answer
pub free : {A V : Type 0} (P : A → V → Type 0) (o : Outcome A) (a b : List Fact) → Gives P o (Err NoMemory) a b
free P (Good x t) a b = tt
free P (Refused n r) a b = tt

-- what fails in the first part fails as a whole
pub stops : {A B V W : Type 0} (P : A → V → Type 0) (Q : B → W → Type 0) (o : Outcome A) (f : A → Outcome B) (e : Untyped) (a b c d : List Fact) →
    Gives P o (Err e) a b → Gives Q (and_then o f) (Err e) c d
stops P Q (Good x t) f (Rule n r) a b c d h = elim h [ ]
stops P Q (Good x t) f NoMemory a b c d h = free Q (after t (f x)) c d
stops P Q (Refused n r) f (Rule m s) a b c d h = h
stops P Q (Refused n r) f NoMemory a b c d h = tt

-- facts in front
pub in_front : {B W : Type 0} (Q : B → W → Type 0) (o : Outcome B) (result : Result W Untyped) (t a b c : List Fact) → b ≡ a ++ t →
    Gives Q o result b c → Gives Q (after t o) result a c
in_front Q (Good y u) (Ok w) t a b c e h = (h.0 ∙ ap (λ (z : List Fact). z ++ u) e ∙ append_assoc a t u, h.1)
in_front Q (Good y u) (Err (Rule n r)) t a b c e h = h
in_front Q (Good y u) (Err NoMemory) t a b c e h = tt
in_front Q (Refused n r) (Ok w) t a b c e h = h
in_front Q (Refused n r) (Err (Rule m s)) t a b c e h = h
in_front Q (Refused n r) (Err NoMemory) t a b c e h = tt

-- where the first part went, the rest decides
pub goes : {A B V W : Type 0} (P : A → V → Type 0) (Q : B → W → Type 0) (o : Outcome A) (f : A → Outcome B) (v : V) (result : Result W Untyped) (a b c : List Fact) →
    Gives P o (Ok v) a b → ((x : A) → P x v → Gives Q (f x) result b c) → Gives Q (and_then o f) result a c
goes P Q (Good x t) f v result a b c h k = in_front Q (f x) result t a b c h.0 (k x h.1)
goes P Q (Refused n r) f v result a b c h k = elim h [ ]

pub at_front : (fs gs : List Fact) (i : ℕ) → i < length fs → fact_at (fs ++ gs) i ≡ fact_at fs i
at_front [] gs i h = absurd (omega arith)
at_front (f ∷ fs) gs zero h = refl
at_front (f ∷ fs) gs (suc i) h = at_front fs gs i (omega arith)

-- a fact stays where it stands
pub stays : {B W : Type 0} (Q : B → W → Type 0) (o : Outcome B) (w : W) (x : Fact) (i : ℕ) (a b : List Fact) → IsAt a x i → Gives Q o (Ok w) a b → IsAt b x i
stays Q (Good y u) w x i a b at h =
    rw h.0 (record { below = simp length-append (omega (arith, at.below)); is = at_front a u i at.below ∙ at.is })
stays Q (Refused n r) w x i a b at h = elim h [ ]

-- a form with one operand
pub one : (o : Outcome Fact) (rule : Fact → Ruled) (k i : ℕ) (result : Result ℕ Untyped) (a b c : List Fact) →
    Gives (IsAt b) o (Ok i) a b → Gives (IsAt c) (finish k (rule (fact_at b i))) result b c → Gives (IsAt c) (and_then o (λ x. finish k (rule x))) result a c
one o rule k i result a b c h g =
    goes (IsAt b) (IsAt c) o (λ x. finish k (rule x)) i result a b c h
    (λ x at. subst (λ (y : Fact). Gives (IsAt c) (finish k (rule y)) result b c) at.is g)

-- a form with two operands
pub two : (o p : Outcome Fact) (rule : Fact → Fact → Ruled) (k i j : ℕ) (result : Result ℕ Untyped) (a b c d : List Fact) →
    Gives (IsAt b) o (Ok i) a b → Gives (IsAt c) p (Ok j) b c → Gives (IsAt d) (finish k (rule (fact_at c i) (fact_at c j))) result c d →
    Gives (IsAt d) (and_then o (λ x. and_then p (λ y. finish k (rule x y)))) result a d
two o p rule k i j result a b c d h g r =
    goes (IsAt b) (IsAt d) o (λ x. and_then p (λ y. finish k (rule x y))) i result a b d h
    (λ x at. one p (rule x) k j result b c d g
    (subst (λ (z : Fact). Gives (IsAt d) (finish k (rule z (fact_at c j))) result c d) (stays (IsAt c) p j x i b c at g).is r))

-- the second operand fails
pub second_stops : (o p : Outcome Fact) (f : Fact → Fact → Outcome Fact) (i : ℕ) (e : Untyped) (a b c d : List Fact) →
    Gives (IsAt b) o (Ok i) a b → Gives (IsAt c) p (Err e) b c → Gives (IsAt d) (and_then o (λ x. and_then p (λ y. f x y))) (Err e) a d
second_stops o p f i e a b c d h g =
    goes (IsAt b) (IsAt d) o (λ x. and_then p (λ y. f x y)) i (Err e) a b d h (λ x at. stops (IsAt c) (IsAt d) p (λ y. f x y) e b c b d g)

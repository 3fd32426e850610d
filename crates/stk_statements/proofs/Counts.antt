-- Nodes without a type, numbers of cases, and sets of them.
use Rattle.std.proofs.Common.{ℕ, zero, suc, ◌≡◌, ◌≤◌, ◌<◌, ◌+◌, ◌++◌, ◌∙◌, List, [], ◌∷◌, Option, ℤ, length, map, drop, set, refl, sym, ap, subst, append_assoc, length-append, arith}
use Rattle.std.proofs.lemmas.List.{take-append-drop, length-map, map-append}
use Rattle.stk_type_rules.specs.declared.facts.NodeFact.{NodeFact}
use Rattle.stk_type_rules.specs.Facts.{Fact, fact_of, fact_at, plain}
use Rattle.stk_ctype.specs.Types.{TypeTree, type_of}
use Rattle.stk_ctype.specs.Sound.{IsSound}
use Rattle.stk_ctype.specs.Structs.{Structs}
use Rattle.stk_type_rules.specs.Facts.{AreSoundFacts}
use Rattle.stk_typing.specs.declared.locals.LocalName.{LocalName}
use Rattle.stk_statements.specs.Places.{Begins}
use Rattle.stk_function_types.specs.Locals.{plain_nodes}
use Rattle.stk_function_types.specs.Sections.{last_numbered, number_in, with_number}

-- ---- nodes without a type
pub plain_more : (n : ℕ) → plain_nodes n ++ plain ∷ [] ≡ plain_nodes (suc n)
plain_more zero = refl
plain_more (suc n) = ap (λ (z : List Fact). plain ∷ z) (plain_more n)

-- ---- locals that were there before
pub begins_self : (ls : List LocalName) → Begins ls ls
begins_self [] = refl
begins_self (l ∷ ls) = ap (λ (z : List LocalName). l ∷ z) (begins_self ls)

pub begins_behind : (ls more : List LocalName) → Begins ls (ls ++ more)
begins_behind [] more = refl
begins_behind (l ∷ ls) more = ap (λ (z : List LocalName). l ∷ z) (begins_behind ls more)

-- what stands behind them
behind : (xs ys : List LocalName) → Begins xs ys → ys ≡ xs ++ drop (length xs) ys
behind xs ys h = sym (take-append-drop (length xs) ys) ∙ ap (λ (z : List LocalName). z ++ drop (length xs) ys) h

-- what begins with locals that begin with others begins with these
pub begins_then : (xs ys zs : List LocalName) → Begins xs ys → Begins ys zs → Begins xs zs
begins_then xs ys zs h k =
    let whole : zs ≡ xs ++ (drop (length xs) ys ++ drop (length ys) zs) = behind ys zs k ∙ ap (λ (z : List LocalName). z ++ drop (length ys) zs) (behind xs ys h) ∙ append_assoc xs (drop (length xs) ys) (drop (length ys) zs) in
    subst (Begins xs) (sym whole) (begins_behind xs (drop (length xs) ys ++ drop (length ys) zs))

pub begins_pushed : (ls now : List LocalName) (l : LocalName) → now ≡ ls ++ l ∷ [] → Begins ls now
begins_pushed ls now l is = subst (Begins ls) (sym is) (begins_behind ls (l ∷ []))

pub begins_same : (ls now : List LocalName) → now ≡ ls → Begins ls now
begins_same ls now is = subst (Begins ls) (sym is) (begins_self ls)

pub begins_least : (ls now : List LocalName) → Begins ls now → length ls ≤ length now
begins_least ls now h = let same : length now ≡ length ls + length (drop (length ls) now) = ap length (behind ls now h) ∙ length-append ls (drop (length ls) now) in omega arith

-- ---- the number of a case
-- the parts of lists that are one
pub cons_parts : (x f : Fact) (xs ys : List Fact) → x ∷ xs ≡ f ∷ ys → (x ≡ f) × (xs ≡ ys)
cons_parts x f xs ys is = (ap (λ (z : List Fact). fact_at z 0) is, ap (λ (z : List Fact). drop 1 z) is)

-- the last of some facts
last_set : (xs : List NodeFact) (y : NodeFact) (k : ℕ) → suc k ≡ length xs → fact_of y ≡ with_number (fact_at (map fact_of xs) k) → map fact_of (set xs k y) ≡ last_numbered (map fact_of xs)
last_set [] y k h e = absurd (omega (arith, h))
last_set (x ∷ []) y zero h e = ap (λ (z : Fact). z ∷ []) e
last_set (x ∷ []) y (suc k) h e = absurd (omega (arith, h))
last_set (x ∷ z ∷ xs) y zero h e = absurd (omega (arith, h))
last_set (x ∷ z ∷ xs) y (suc k) h e = ap (λ (w : List Fact). fact_of x ∷ w) (last_set (z ∷ xs) y k (omega (arith, h)) e)

pub last_behind : (xs : List NodeFact) (y : NodeFact) (a t : List Fact) (k : ℕ) → suc k ≡ length xs → length a < length xs → map fact_of xs ≡ a ++ t → fact_of y ≡ with_number (fact_at (map fact_of xs) k) → map fact_of (set xs k y) ≡ a ++ last_numbered t
last_behind xs y [] t k h less is e = last_set xs y k h e ∙ ap last_numbered is
last_behind [] y (f ∷ a) t k h less is e = absurd (omega (arith, less))
last_behind (x ∷ xs) y (f ∷ a) t zero h less is e = absurd (omega (arith, h, less))
last_behind (x ∷ xs) y (f ∷ a) t (suc k) h less is e =
    let same = cons_parts (fact_of x) f (map fact_of xs) (a ++ t) is in
    ap (λ (w : List Fact). fact_of x ∷ w) (last_behind xs y a t k (omega (arith, h)) (omega (arith, less)) same.1 e) ∙ ap (λ (w : Fact). w ∷ a ++ last_numbered t) same.0

-- no fact is behind them
pub none_behind : (xs : List NodeFact) (a t : List Fact) → length xs ≤ length a → map fact_of xs ≡ a ++ t → map fact_of xs ≡ a ++ last_numbered t
none_behind xs a [] h is = is
none_behind xs a (f ∷ t) h is = let same : length xs ≡ length a + suc (length t) = sym (length-map xs fact_of) ∙ ap length is ∙ length-append a (f ∷ t) in absurd (omega (arith, h, same))

-- one node more
pub plain_turn : (xs now : List NodeFact) (f : NodeFact) (init : List Fact) (n : ℕ) → now ≡ xs ++ f ∷ [] → fact_of f ≡ plain → map fact_of xs ≡ init ++ plain_nodes n → map fact_of now ≡ init ++ plain_nodes (n + 1)
plain_turn xs now f init n e is so =
    let one : suc n ≡ n + 1 = omega arith in
    ap (map fact_of) e ∙ map-append fact_of xs (f ∷ []) ∙ ap (λ (z : Fact). map fact_of xs ++ z ∷ []) is ∙ ap (λ (z : List Fact). z ++ plain ∷ []) so ∙ append_assoc init (plain_nodes n) (plain ∷ [])
    ∙ ap (λ (z : List Fact). init ++ z) (plain_more n) ∙ ap (λ (k : ℕ). init ++ plain_nodes k) one

pub numbered_is : (m : NodeFact) (n : Option ℤ) (x : Fact) → fact_of m ≡ x → n ≡ number_in x.constancy →
    record { role = m.role; ty = type_of m.ty; lvalue = m.lvalue; means = m.means; constancy = m.constancy; number = n; is_null = m.is_null } ≡ with_number x
numbered_is m n x e f =
    ap (λ (z : Option ℤ). record { role = m.role; ty = type_of m.ty; lvalue = m.lvalue; means = m.means; constancy = m.constancy; number = z; is_null = m.is_null }) (f ∙ ap (λ (w : Fact). number_in w.constancy) (sym e)) ∙ ap with_number e

pub set_sound : (structs : Structs) (xs : List NodeFact) (k : ℕ) (y : NodeFact) → k < length xs → (fact_of y).ty ≡ (fact_at (map fact_of xs) k).ty → AreSoundFacts structs (map fact_of xs) → AreSoundFacts structs (map fact_of (set xs k y))
set_sound structs [] k y h e all i = absurd (omega (arith, h))
set_sound structs (x ∷ xs) zero y h e all zero = subst (λ (t : TypeTree). IsSound structs t) (sym e) (all zero)
set_sound structs (x ∷ xs) zero y h e all (suc i) = all (suc i)
set_sound structs (x ∷ xs) (suc k) y h e all zero = all zero
set_sound structs (x ∷ xs) (suc k) y h e all (suc i) = set_sound structs xs k y (omega (arith, h)) e (λ j. all (suc j)) i

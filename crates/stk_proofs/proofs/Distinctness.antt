-- The literals of a list, each once.
use Rattle.std.proofs.Common.{◌≡◌, ℕ, suc, zero, ◌+◌, ◌<◌, ◌≤◌, ◌⊎◌, inl, inr, Bool, true, false, not, ◌||◌, nat_eq, if◌then◌else◌, List, [], ◌∷◌, ◌++◌, length, map, drop, take, get_or, drop-cons, add-one, refl, sym, ap, ◌∙◌, subst, arith, append_assoc}
use Rattle.std.specs.List.{All, Contains, list_any}
use Rattle.std.proofs.lemmas.Bool.{true≢false, not-true, not-false}
use Rattle.std.proofs.lemmas.List.{append-nil, take_more}
use Rattle.std.proofs.lemmas.List.Elements.{All-push, All-weaker, Contains-push_cases}
use Rattle.stk_clauses.specs.declared.literal.Lit.{Lit}
use Rattle.stk_clauses.specs.Literals.{AreDistinct}
use Rattle.stk_proofs.specs.Distinct.{is_among, with_literal, distinct_behind, distinct, IsBetween}

lit_from : (l m : Lit) → l.0 ≡ m.0 → l ≡ m
lit_from l m e = ap (λ (n : ℕ). record { 0 = n }) e

same_from : (a b : ℕ) → nat_eq a b ≡ true → a ≡ b
same_from a b e = grind arith

eq_self : (a : ℕ) → nat_eq a a ≡ true
eq_self a = grind arith

later : (m : Lit) (ms : List Lit) (l : Lit) → Contains ms l → Contains (m ∷ ms) l
later m ms l h = (suc h.0, omega (arith, h.1), h.2)

head_or : (m : Lit) (ms : List Lit) (l : Lit) → Contains (m ∷ ms) l → (m ≡ l) ⊎ Contains ms l
head_or m ms l (zero, lt, e) = inl e
head_or m ms l (suc k, lt, e) = inr (k, omega (arith, lt), e)

yes_by : (m : Lit) (ms : List Lit) (l : Lit) (b : Bool) → nat_eq l.0 m.0 ≡ b → (is_among ms l ≡ true → Contains ms l) → b || is_among ms l ≡ true → Contains (m ∷ ms) l
yes_by m ms l true e ih h = (0, omega arith, lit_from m l (sym (same_from l.0 m.0 e)))
yes_by m ms l false e ih h = later m ms l (ih h)

pub among_yes : (found : List Lit) (l : Lit) → is_among found l ≡ true → Contains found l
among_yes [] l e = absurd (true≢false (sym e))
among_yes (m ∷ ms) l e = yes_by m ms l (nat_eq l.0 m.0) refl (among_yes ms l) e

or_true : (b : Bool) → b || true ≡ true
or_true true = refl
or_true false = refl

pub among_has : (found : List Lit) (l : Lit) → Contains found l → is_among found l ≡ true
among_has [] l h = absurd (omega (arith, h.1))
among_has (m ∷ ms) l h =
    elim (head_or m ms l h) [
      | inl e ↦ ap (λ b. b || is_among ms l) (ap (λ (k : Lit). nat_eq l.0 k.0) e ∙ eq_self l.0)
      | inr k ↦ ap (λ b. nat_eq l.0 m.0 || b) (among_has ms l k) ∙ or_true (nat_eq l.0 m.0)
    ]

among_no_by : (found : List Lit) (l : Lit) (b : Bool) → is_among found l ≡ b → (Contains found l → ⊥) → is_among found l ≡ false
among_no_by found l true e n = absurd (n (among_yes found l e))
among_no_by found l false e n = e

pub among_no : (found : List Lit) (l : Lit) → (Contains found l → ⊥) → is_among found l ≡ false
among_no found l n = among_no_by found l (is_among found l) refl n

pub with_old : (found : List Lit) (l : Lit) → Contains found l → with_literal found l ≡ found
with_old found l h = ap (λ b. if b then found else found ++ l ∷ []) (among_has found l h)

pub with_new : (found : List Lit) (l : Lit) → (Contains found l → ⊥) → with_literal found l ≡ found ++ l ∷ []
with_new found l n = ap (λ b. if b then found else found ++ l ∷ []) (among_no found l n)

-- one literal more
pub goes_on : (found new ls : List Lit) (i : ℕ) (d : Lit) → i < length ls → new ≡ with_literal found (get_or ls i d) → distinct_behind found (drop i ls) ≡ distinct ls → distinct_behind new (drop (i + 1) ls) ≡ distinct ls
goes_on found new ls i d h e so_far =
    let at : drop i ls ≡ get_or ls i d ∷ drop (i + 1) ls = drop-cons ls i d h ∙ ap (λ n. get_or ls i d ∷ drop n ls) (sym (add-one i)) in
    ap (λ f. distinct_behind f (drop (i + 1) ls)) e ∙ (sym (ap (distinct_behind found) at) ∙ so_far)

push_differs : (xs : List Lit) (l : Lit) → AreDistinct xs → (Contains xs l → ⊥) → AreDistinct (xs ++ l ∷ [])
push_differs [] l d n = (λ h. omega (arith, h.1), tt)
push_differs (y ∷ ys) l d n = (
  λ h. elim (Contains-push_cases ys l y h) [ inl k ↦ d.0 k | inr e ↦ n (0, omega arith, sym e) ],
  push_differs ys l d.1 (λ h. n (later y ys l h)),
)

with_differs : (found : List Lit) (l : Lit) (b : Bool) → is_among found l ≡ b → AreDistinct found → AreDistinct (if b then found else found ++ l ∷ [])
with_differs found l true e d = d
with_differs found l false e d = push_differs found l d (λ h. true≢false (sym (among_has found l h) ∙ e))

behind_differ : (found ls : List Lit) → AreDistinct found → AreDistinct (distinct_behind found ls)
behind_differ found [] d = d
behind_differ found (l ∷ ls) d = behind_differ (with_literal found l) ls (with_differs found l (is_among found l) refl d)

-- they differ
pub distinct_differ : (ls : List Lit) → AreDistinct (distinct ls)
distinct_differ ls = behind_differ [] ls tt

stays_behind : (found ls : List Lit) → ((l : Lit) → Contains ls l → Contains found l → ⊥) → AreDistinct ls → distinct_behind found ls ≡ found ++ ls
stays_behind found [] apart d = sym (append-nil found)
stays_behind found (l ∷ ls) apart d =
    ap (λ f. distinct_behind f ls) (with_new found l (apart l (0, omega arith, refl)))
    ∙ (stays_behind (found ++ l ∷ []) ls (λ m h k. elim (Contains-push_cases found l m k) [ inl j ↦ apart m (later l ls m h) j | inr e ↦ d.0 (subst (λ (n : Lit). Contains ls n) (sym e) h) ]) d.1
    ∙ append_assoc found (l ∷ []) ls)

-- literals that differ stay as they are
pub distinct_stays : (ls : List Lit) → AreDistinct ls → distinct ls ≡ ls
distinct_stays ls d = stays_behind [] ls (λ l h k. omega (arith, k.1)) d

-- whether a number is among those of literals
pub among_numbers : (found : List Lit) (l : Lit) → list_any (nat_eq l.0) (map (λ (m : Lit). m.0) found) ≡ is_among found l
among_numbers [] l = refl
among_numbers (m ∷ ms) l = ap (λ b. nat_eq l.0 m.0 || b) (among_numbers ms l)

-- a literal whose number hasn't been seen, and one whose number has
pub unseen_new : (found : List Lit) (l : Lit) (keys : List ℕ) (fresh : Bool) → keys ≡ map (λ (m : Lit). m.0) found → fresh ≡ not (list_any (nat_eq l.0) keys) → fresh ≡ true → with_literal found l ≡ found ++ l ∷ []
unseen_new found l keys fresh k a t =
    let same : list_any (nat_eq l.0) keys ≡ is_among found l = ap (list_any (nat_eq l.0)) k ∙ among_numbers found l in
    ap (λ b. if b then found else found ++ l ∷ []) (sym same ∙ not-true (list_any (nat_eq l.0) keys) (sym a ∙ t))

pub unseen_old : (found : List Lit) (l : Lit) (keys : List ℕ) (fresh : Bool) → keys ≡ map (λ (m : Lit). m.0) found → fresh ≡ not (list_any (nat_eq l.0) keys) → fresh ≡ false → with_literal found l ≡ found
unseen_old found l keys fresh k a t =
    let same : list_any (nat_eq l.0) keys ≡ is_among found l = ap (list_any (nat_eq l.0)) k ∙ among_numbers found l in
    ap (λ b. if b then found else found ++ l ∷ []) (sym same ∙ not-false (list_any (nat_eq l.0) keys) (sym a ∙ t))

-- bounds of some literals and of the next
pub between_more : (least greatest a b : ℕ) (ls : List Lit) (i : ℕ) (d : Lit) → i < length ls → a ≤ least → greatest ≤ b → a ≤ (get_or ls i d).0 → (get_or ls i d).0 ≤ b → All (IsBetween least greatest) (take i ls) → All (IsBetween a b) (take (i + 1) ls)
between_more least greatest a b ls i d h low high from to all =
    subst (All (IsBetween a b)) (sym (take_more ls i d h))
    (All-push (IsBetween a b) (take i ls) (get_or ls i d) (All-weaker (IsBetween least greatest) (IsBetween a b) (λ l k. (omega (arith, k.0, low), omega (arith, k.1, high))) (take i ls) all) (from, to))

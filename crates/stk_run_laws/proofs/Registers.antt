-- Registers that a loop sets, and registers that a scope gives back.
use Rattle.std.proofs.Common.{◌≡◌, ℕ, zero, suc, ◌≤◌, ◌==◌, Bool, true, false, ◌||◌, List, [], ◌∷◌, length, ℤ, pos, refl, sym, ap, ◌∙◌, subst, arith, inl, inr, get_or, set, ⊎_elim}
use Rattle.std.proofs.Math.ListN.{length-set}
use Rattle.std.proofs.lemmas.List.{get_or-set_other, get_or-set_same}
use Rattle.std.proofs.lemmas.Bool.{cases_lt}
use Rattle.std.proofs.lemmas.Grind.{common_steps}
use Rattle.std.specs.Prelude.{if◌then◌else◌, filter}
use Rattle.stk_meaning.specs.Typings.{is_among}
use Rattle.stk_meaning.specs.Worlds.{restored}
use Rattle.stk_meaning.specs.Keys.{loop_key}
use Rattle.stk_meaning.specs.Paths.{InputMap, reset_all}
use Rattle.stk_run_laws.specs.Visits.{IsIn}

past : (xs : List ℤ) (i : ℕ) → length xs ≤ i → get_or xs i (pos 0) ≡ pos 0
past [] i l = refl
past (x ∷ xs) zero l = absurd (omega arith)
past (x ∷ xs) (suc i) l = past xs i (omega arith)

-- a number that another list of the same length has at the place is there once it is set
pub set_here : (xs ys : List ℤ) (i : ℕ) → length xs ≡ length ys → get_or (set xs i (get_or ys i (pos 0))) i (pos 0) ≡ get_or ys i (pos 0)
set_here xs ys i e =
    ⊎_elim (λ lt. get_or-set_same xs i (get_or ys i (pos 0)) (pos 0) (omega (arith, e, lt)))
    (λ le. past (set xs i (get_or ys i (pos 0))) i (omega (arith, length-set xs i (get_or ys i (pos 0)), e, le)) ∙ sym (past ys i le)) (cases_lt i (length ys))

same_list : (xs ys : List ℤ) → length xs ≡ length ys → ((i : ℕ) → get_or xs i (pos 0) ≡ get_or ys i (pos 0)) → xs ≡ ys
same_list [] [] e h = refl
same_list [] (y ∷ ys) e h = absurd (omega arith)
same_list (x ∷ xs) [] e h = absurd (omega arith)
same_list (x ∷ xs) (y ∷ ys) e h = ap (λ z. z ∷ xs) (h 0) ∙ ap (λ zs. y ∷ zs) (same_list xs ys (omega arith) (λ i. h (suc i)))

pub same_at : (a b : ℕ) → a == b ≡ true → a ≡ b
same_at a b h = grind (arith, common_steps)

pub apart_at : (a b : ℕ) → a == b ≡ false → a ≡ b → ⊥
apart_at a b h e = grind (arith, common_steps)

-- the map's numbers give back the registers of a later turn
pub reset_reaches : (m : InputMap) (k : ℕ) (js : List ℕ) (r now : List ℤ) → length now ≡ length r → ((j : ℕ) → IsIn j js → m (loop_key k j) ≡ get_or r j (pos 0)) → ((i : ℕ) → (IsIn i js → ⊥) → get_or now i (pos 0) ≡ get_or r i (pos 0)) → reset_all m k js now ≡ r
reset_reaches m k [] r now e f g = same_list now r e (λ i. g i (λ h. h))
reset_reaches m k (j ∷ js) r now e f g =
    let is : m (loop_key k j) ≡ get_or r j (pos 0) = f j (inl refl) in
    ap (λ z. reset_all m k js (set now j z)) is
    ∙ reset_reaches m k js r (set now j (get_or r j (pos 0))) (length-set now j (get_or r j (pos 0)) ∙ e) (λ i h. f i (inr h)) (λ i h. at i h (i == j) refl)
  where
    at : (i : ℕ) → (IsIn i js → ⊥) → (b : Bool) → i == j ≡ b → get_or (set now j (get_or r j (pos 0))) i (pos 0) ≡ get_or r i (pos 0)
    at i h true d = subst (λ z. get_or (set now j (get_or r j (pos 0))) z (pos 0) ≡ get_or r z (pos 0)) (sym (same_at i j d)) (set_here now r j e)
    at i h false d = get_or-set_other now j i (get_or r j (pos 0)) (pos 0) (apart_at i j d) ∙ g i (λ s. elim s [ inl t ↦ apart_at i j d t | inr t ↦ h t ])

-- two maps that agree on a loop's numbers set the same registers
pub reset_same : (m m' : InputMap) (k : ℕ) (js : List ℕ) (r : List ℤ) → ((j : ℕ) → m (loop_key k j) ≡ m' (loop_key k j)) → reset_all m k js r ≡ reset_all m' k js r
reset_same m m' k [] r h = refl
reset_same m m' k (j ∷ js) r h = ap (λ z. reset_all m k js (set r j z)) (h j) ∙ reset_same m m' k js (set r j (m' (loop_key k j))) h

-- a number that passes the test is among those that are filtered
pub filter_keeps : (p : ℕ → Bool) (ks : List ℕ) (i : ℕ) → is_among i ks ≡ true → p i ≡ true → IsIn i (filter p ks)
filter_keeps p [] i h e = absurd cc
filter_keeps p (k ∷ ks) i h e = by (i == k) refl h (p k) refl (λ a. filter_keeps p ks i a e)
  where
    by : (b : Bool) → i == k ≡ b → (b || is_among i ks) ≡ true → (d : Bool) → p k ≡ d → (is_among i ks ≡ true → IsIn i (filter p ks)) → IsIn i (if d then k ∷ filter p ks else filter p ks)
    by true s h true t more = inl (same_at i k s)
    by true s h false t more = let same : p i ≡ p k = ap p (same_at i k s) in absurd cc
    by false s h true t more = inr (more h)
    by false s h false t more = more h

-- ---- scopes

pub restored_length : (ks : List ℕ) (old r : List ℤ) → length (restored ks old r) ≡ length r
restored_length [] old r = refl
restored_length (k ∷ ks) old r = length-set (restored ks old r) k (get_or old k (pos 0)) ∙ restored_length ks old r

-- what a scope declares is given back, and nothing else
pub restored_at : (ks : List ℕ) (old r : List ℤ) → length r ≡ length old → (i : ℕ) → get_or (restored ks old r) i (pos 0) ≡ (if is_among i ks then get_or old i (pos 0) else get_or r i (pos 0))
restored_at [] old r e i = refl
restored_at (k ∷ ks) old r e i = by (i == k) refl (restored_at ks old r e i)
  where
    by : (b : Bool) → i == k ≡ b → get_or (restored ks old r) i (pos 0) ≡ (if is_among i ks then get_or old i (pos 0) else get_or r i (pos 0)) → get_or (set (restored ks old r) k (get_or old k (pos 0))) i (pos 0) ≡ (if (b || is_among i ks) then get_or old i (pos 0) else get_or r i (pos 0))
    by true d more = subst (λ z. get_or (set (restored ks old r) k (get_or old k (pos 0))) z (pos 0) ≡ get_or old z (pos 0)) (sym (same_at i k d)) (set_here (restored ks old r) old k (restored_length ks old r ∙ e))
    by false d more = get_or-set_other (restored ks old r) k i (get_or old k (pos 0)) (pos 0) (apart_at i k d) ∙ more

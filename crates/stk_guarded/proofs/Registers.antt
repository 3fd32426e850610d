-- Registers that are the same but for some.
use Rattle.std.proofs.Common.{◌≡◌, ℕ, zero, suc, ◌==◌, Bool, true, false, ◌||◌, List, [], ◌∷◌, ◌++◌, length, ℤ, pos, refl, sym, ap, ◌∙◌, subst, arith, get_or, set, ⊎_elim, ◌≤◌}
use Rattle.std.proofs.Math.ListN.{length-set}
use Rattle.std.proofs.lemmas.List.{get_or-set_other, get_or-set_same}
use Rattle.std.proofs.lemmas.Bool.{cases_lt}
use Rattle.std.proofs.lemmas.Grind.{common_steps}
use Rattle.stk_meaning.specs.Typings.{is_among}
use Rattle.stk_meaning.specs.Worlds.{restored, register}
use Rattle.stk_guarded.specs.Statements.{Alike}

past : (xs : List ℤ) (i : ℕ) → length xs ≤ i → get_or xs i (pos 0) ≡ pos 0
past [] i l = refl
past (x ∷ xs) zero l = absurd (omega arith)
past (x ∷ xs) (suc i) l = past xs i (omega arith)

same_list : (xs ys : List ℤ) → length xs ≡ length ys → ((i : ℕ) → get_or xs i (pos 0) ≡ get_or ys i (pos 0)) → xs ≡ ys
same_list [] [] e h = refl
same_list [] (y ∷ ys) e h = absurd (omega arith)
same_list (x ∷ xs) [] e h = absurd (omega arith)
same_list (x ∷ xs) (y ∷ ys) e h = ap (λ z. z ∷ xs) (h 0) ∙ ap (λ zs. y ∷ zs) (same_list xs ys (omega arith) (λ i. h (suc i)))

same_at : (a b : ℕ) → a == b ≡ true → a ≡ b
same_at a b h = grind (arith, common_steps)

apart_at : (a b : ℕ) → a == b ≡ false → a ≡ b → ⊥
apart_at a b h e = grind (arith, common_steps)

pub alike_same : (ks : List ℕ) (a b : List ℤ) → a ≡ b → Alike ks a b
alike_same ks a b e = record { length = ap length e; at = λ i h. ap (λ z. get_or z i (pos 0)) e }

pub alike_is : (a b : List ℤ) → Alike [] a b → a ≡ b
alike_is a b h = same_list a b h.length (λ i. h.at i refl)

pub alike_then : (ks : List ℕ) (a b c : List ℤ) → Alike ks a b → Alike ks b c → Alike ks a c
alike_then ks a b c h k = record { length = h.length ∙ k.length; at = λ i e. h.at i e ∙ k.at i e }

among_left : (i : ℕ) (js ks : List ℕ) → is_among i (js ++ ks) ≡ false → is_among i js ≡ false
among_left i [] ks h = refl
among_left i (j ∷ js) ks h = by (i == j) h (λ e. among_left i js ks e)
  where
    by : (b : Bool) → (b || is_among i (js ++ ks)) ≡ false → (is_among i (js ++ ks) ≡ false → is_among i js ≡ false) → (b || is_among i js) ≡ false
    by true h more = absurd cc
    by false h more = more h

among_right : (i : ℕ) (js ks : List ℕ) → is_among i (js ++ ks) ≡ false → is_among i ks ≡ false
among_right i [] ks h = h
among_right i (j ∷ js) ks h = by (i == j) h (λ e. among_right i js ks e)
  where
    by : (b : Bool) → (b || is_among i (js ++ ks)) ≡ false → (is_among i (js ++ ks) ≡ false → is_among i ks ≡ false) → is_among i ks ≡ false
    by true h more = absurd cc
    by false h more = more h

pub alike_left : (js ks : List ℕ) (a b : List ℤ) → Alike js a b → Alike (js ++ ks) a b
alike_left js ks a b h = record { length = h.length; at = λ i e. h.at i (among_left i js ks e) }

pub alike_right : (js ks : List ℕ) (a b : List ℤ) → Alike ks a b → Alike (js ++ ks) a b
alike_right js ks a b h = record { length = h.length; at = λ i e. h.at i (among_right i js ks e) }

pub restored_length : (ks : List ℕ) (old r : List ℤ) → length (restored ks old r) ≡ length r
restored_length [] old r = refl
restored_length (k ∷ ks) old r = length-set (restored ks old r) k (get_or old k (pos 0)) ∙ restored_length ks old r

-- a number that two lists of one length get at one place
set_alike : (xs ys : List ℤ) (i : ℕ) (x : ℤ) → length xs ≡ length ys → get_or (set xs i x) i (pos 0) ≡ get_or (set ys i x) i (pos 0)
set_alike xs ys i x e =
    ⊎_elim (λ lt. get_or-set_same xs i x (pos 0) (omega (arith, e, lt)) ∙ sym (get_or-set_same ys i x (pos 0) (omega (arith, e, lt))))
    (λ le. past (set xs i x) i (omega (arith, length-set xs i x, e, le)) ∙ sym (past (set ys i x) i (omega (arith, length-set ys i x, e, le)))) (cases_lt i (length ys))

-- what is given back is the same
restored_at : (ks : List ℕ) (old a b : List ℤ) → length a ≡ length b → (i : ℕ) → (is_among i ks ≡ false → get_or a i (pos 0) ≡ get_or b i (pos 0)) → get_or (restored ks old a) i (pos 0) ≡ get_or (restored ks old b) i (pos 0)
restored_at [] old a b e i h = h refl
restored_at (k ∷ ks) old a b e i h = by (i == k) refl h (λ g. restored_at ks old a b e i g)
  where
    x : ℤ
    x = register k old

    lengths : length (restored ks old a) ≡ length (restored ks old b)
    lengths = restored_length ks old a ∙ e ∙ sym (restored_length ks old b)

    by : (c : Bool) → i == k ≡ c → ((c || is_among i ks) ≡ false → get_or a i (pos 0) ≡ get_or b i (pos 0)) → ((is_among i ks ≡ false → get_or a i (pos 0) ≡ get_or b i (pos 0)) → get_or (restored ks old a) i (pos 0) ≡ get_or (restored ks old b) i (pos 0)) → get_or (set (restored ks old a) k x) i (pos 0) ≡ get_or (set (restored ks old b) k x) i (pos 0)
    by true d h more = subst (λ z. get_or (set (restored ks old a) k x) z (pos 0) ≡ get_or (set (restored ks old b) k x) z (pos 0)) (sym (same_at i k d)) (set_alike (restored ks old a) (restored ks old b) k x lengths)
    by false d h more = get_or-set_other (restored ks old a) k i x (pos 0) (apart_at i k d) ∙ more h ∙ sym (get_or-set_other (restored ks old b) k i x (pos 0) (apart_at i k d))

pub restored_alike : (ks : List ℕ) (old a b : List ℤ) → Alike ks a b → restored ks old a ≡ restored ks old b
restored_alike ks old a b h = same_list (restored ks old a) (restored ks old b) (restored_length ks old a ∙ h.length ∙ sym (restored_length ks old b)) (λ i. restored_at ks old a b h.length i (h.at i))

-- what is set to what it is
set_again : (xs : List ℤ) (i : ℕ) → set xs i (get_or xs i (pos 0)) ≡ xs
set_again [] i = refl
set_again (x ∷ xs) zero = refl
set_again (x ∷ xs) (suc i) = ap (λ z. x ∷ z) (set_again xs i)

pub restored_own : (ks : List ℕ) (r : List ℤ) → restored ks r r ≡ r
restored_own [] r = refl
restored_own (k ∷ ks) r = ap (λ z. set z k (register k r)) (restored_own ks r) ∙ set_again r k

-- a register that is set is the only other one
pub set_alike_one : (r : List ℤ) (k : ℕ) (x : ℤ) → Alike (k ∷ []) (set r k x) r
set_alike_one r k x = record { length = length-set r k x; at = λ i e. by i (i == k) refl e }
  where
    by : (i : ℕ) (c : Bool) → i == k ≡ c → (c || false) ≡ false → get_or (set r k x) i (pos 0) ≡ get_or r i (pos 0)
    by i true d e = absurd cc
    by i false d e = get_or-set_other r k i x (pos 0) (apart_at i k d)

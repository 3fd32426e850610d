-- Nodes that are each there once.
use Rattle.std.proofs.Common.{◌≡◌, ℕ, zero, suc, Bool, true, false, List, [], ◌∷◌, ◌++◌, map, slice_get, Some, refl, sym, ap, subst, ◌∙◌, true≢false, if◌then◌else◌}
use Rattle.std.specs.List.{IsDistinct, AllByRecursion}
use Rattle.std.specs.Option.{unwrap_or}
use Rattle.std.proofs.lemmas.Option.{none-some}
use Rattle.stk_terms.specs.declared.term.TermNode.{TermNode}
use Rattle.stk_terms.specs.Terms.{Term}
use Rattle.stk_terms.specs.Keys.{said, StandsIn, Once, AddsNode, Same, More}

pub some_one : {A : Type 0} {a b : A} → Some a ≡ Some b → a ≡ b
some_one {A} {a} {b} h = ap (λ o. unwrap_or o a) h

kept : (old more : List TermNode) (i : ℕ) (n : Term × ℕ) → slice_get (map said old) i ≡ Some n → slice_get (map said (old ++ more)) i ≡ Some n
kept [] more i n h = absurd (none-some _ h)
kept (x ∷ xs) more zero n h = h
kept (x ∷ xs) more (suc i) n h = kept xs more i n h

pub said_at : (ks : List TermNode) (i : ℕ) (k : TermNode) → slice_get ks i ≡ Some k → slice_get (map said ks) i ≡ Some (said k)
said_at [] i k h = absurd (none-some _ h)
said_at (x ∷ xs) zero k h = ap (λ n. Some (said n)) (some_one h)
said_at (x ∷ xs) (suc i) k h = said_at xs i k h

module _ (e : TermNode → TermNode → Bool) (same : (a b : TermNode) → said a ≡ said b → e a b ≡ true) where
  later : (x : TermNode) (xs : List TermNode) (j : ℕ) (n : Term × ℕ) → AllByRecursion (λ y. e x y ≡ false) xs → said x ≡ n → slice_get (map said xs) j ≡ Some n → ⊥
  later x [] j n all p h = absurd (none-some _ h)
  later x (y ∷ ys) zero n all p h = true≢false (sym (same x y (p ∙ sym (some_one h))) ∙ all.0)
  later x (y ∷ ys) (suc j) n all p h = later x ys j n all.1 p h

  one_place : (ks : List TermNode) → IsDistinct e ks → (i j : ℕ) (n : Term × ℕ) → slice_get (map said ks) i ≡ Some n → slice_get (map said ks) j ≡ Some n → i ≡ j
  unfolding IsDistinct
  one_place [] d i j n h k = absurd (none-some _ h)
  one_place (x ∷ xs) d zero zero n h k = refl
  one_place (x ∷ xs) d zero (suc j) n h k = absurd (later x xs j n d.0 (some_one h) k)
  one_place (x ∷ xs) d (suc i) zero n h k = absurd (later x xs i n d.0 (some_one k) h)
  one_place (x ∷ xs) d (suc i) (suc j) n h k = ap suc (one_place xs d.1 i j n h k)

  pub once : (ks : List TermNode) → IsDistinct e ks → Once ks
  once ks d = record { once = one_place ks d }

-- a node that was there stands where it is found after others were added
pub one_place_after : (old more : List TermNode) (r i : ℕ) (n : TermNode) → Once (old ++ more) → StandsIn (old ++ more) r n → StandsIn old i n → r ≡ i
one_place_after old more r i n o p q = o.once r i (said n) p (kept old more i (said n) q)

pub one_place_added : (old : List TermNode) (n : TermNode) (new : List TermNode) (r i : ℕ) → AddsNode old n new → Once new → StandsIn new r n → StandsIn old i n → r ≡ i
one_place_added old n new r i (Same e) o p q = o.once r i (said n) p (subst (λ l. StandsIn l i n) (sym e) q)
one_place_added old n new r i (More e) o p q = one_place_after old (n ∷ []) r i n (subst Once e o) (subst (λ l. StandsIn l r n) e p) q

pub adds : (old new : List TermNode) (n : TermNode) (b : Bool) → new ≡ (if b then old else old ++ n ∷ []) → AddsNode old n new
adds old new n true h = Same h
adds old new n false h = More h

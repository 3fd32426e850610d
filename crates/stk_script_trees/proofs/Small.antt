-- The numbers in terms that have a width are below 2 to 128.
use Rattle.std.proofs.Common.{◌≡◌, ℕ, ◌<◌, ◌≤◌, ◌+◌, ◌-◌, ◌^◌, ◌&&◌, List, [], ◌∷◌, refl, ap, sym, ◌∙◌, subst, arith, inl, inr}
use Rattle.std.specs.Prelude.{Option, Some, None, nat_eq, nat_lt, nat_le}
use Rattle.std.proofs.lemmas.Bool.Decides.{nat_tests}
use Rattle.std.proofs.Math.Nat.{pow-le-pow_right}
use Rattle.stk_base.specs.Text.{same_text}
use Rattle.stk_scripts.specs.Syntax.{Expr, named, literal, one_of, two_of, joined, cut, widened, chosen, Declared, Defined}
use Rattle.stk_scripts.specs.Scripts.{found, width_in, same_width, bounded, literal_width, joined_width, cut_width, widened_width, tested_width, behind_declared, behind_defined, DeclaredFit, DefinedFit}
use Rattle.stk_scripts.specs.Laws.{AreSmall}
use Rattle.stk_scripts.proofs.Bytes.{chosen_way, and_both}

some_is : {A : Type 0} (x y : A) → Some x ≡ Some y → x ≡ y
some_is x y e = cc

-- names of widths from 1 to 128
abbrev pub Held : List (List ℕ × ℕ) → Type 0
Held [] = Unit {0}
Held (x ∷ xs) = (x.1 ≤ 128) × Held xs

found_held : (g : List (List ℕ × ℕ)) (n : List ℕ) (w : ℕ) → Held g → found g n ≡ Some w → w ≤ 128
found_held [] n w h e = absurd cc
found_held (x ∷ xs) n w h e = elim (chosen_way (same_text x.0 n) (Some x.1) (found xs n) (Some w) e) [
  | inl k ↦ subst (λ v. v ≤ 128) (some_is x.1 w k.1) h.0
  | inr k ↦ found_held xs n w h.1 k.1
]

pub bounded_some : (v w : ℕ) → bounded v ≡ Some w → (1 ≤ v) × (v ≤ 128) × (v ≡ w)
bounded_some v w e = elim (chosen_way (nat_le 1 v && nat_le v 128) (Some v) None (Some w) e) [
  | inl k ↦
      let b = and_both (nat_le 1 v) (nat_le v 128) k.0 in
      (grind (arith, nat_tests), grind (arith, nat_tests), some_is v w k.1)
  | inr k ↦ absurd (let l = k.1 in cc)
]

pub same_parts : (o p : Option ℕ) (w : ℕ) → same_width o p ≡ Some w → (o ≡ Some w) × (p ≡ Some w)
same_parts None p w e = absurd cc
same_parts (Some v) None w e = absurd cc
same_parts (Some v) (Some u) w e = elim (chosen_way (nat_eq v u) (Some v) None (Some w) e) [
  | inl k ↦ let s : v ≡ u = grind (arith, nat_tests) in (k.1, ap (λ n. Some n) (sym s) ∙ k.1)
  | inr k ↦ absurd (let l = k.1 in cc)
]

pub joined_parts : (o p : Option ℕ) (w : ℕ) → joined_width o p ≡ Some w → (a : ℕ) × (b : ℕ) × (o ≡ Some a) × (p ≡ Some b) × (bounded (a + b) ≡ Some w)
joined_parts None p w e = absurd cc
joined_parts (Some a) None w e = absurd cc
joined_parts (Some a) (Some b) w e = (a, b, refl, refl, e)

pub cut_parts : (high low : ℕ) (o : Option ℕ) (w : ℕ) → cut_width high low o ≡ Some w → (v : ℕ) × (o ≡ Some v) × (low ≤ high) × (high < v) × (high + 1 - low ≡ w)
cut_parts high low None w e = absurd cc
cut_parts high low (Some v) w e = elim (chosen_way (nat_le low high && nat_lt high v) (Some (high + 1 - low)) None (Some w) e) [
  | inl k ↦
      let b = and_both (nat_le low high) (nat_lt high v) k.0 in
      (v, refl, grind (arith, nat_tests), grind (arith, nat_tests), some_is (high + 1 - low) w k.1)
  | inr k ↦ absurd (let l = k.1 in cc)
]

pub widened_parts : (k : ℕ) (o : Option ℕ) (w : ℕ) → widened_width k o ≡ Some w → (v : ℕ) × (o ≡ Some v) × (bounded (v + k) ≡ Some w)
widened_parts k None w e = absurd cc
widened_parts k (Some v) w e = (v, refl, e)

pub tested_parts : (o p : Option ℕ) (w : ℕ) → tested_width o p ≡ Some w → (v : ℕ) × (o ≡ Some v) × (p ≡ Some w)
tested_parts None p w e = absurd cc
tested_parts (Some v) p w e = (v, refl, e)

literal_parts : (v n w : ℕ) → literal_width v n ≡ Some w → (n < 2 ^ v) × (bounded v ≡ Some w)
literal_parts v n w e = elim (chosen_way (nat_lt n (2 ^ v)) (bounded v) None (Some w) e) [
  | inl k ↦ (grind (arith, nat_tests), k.1)
  | inr k ↦ absurd (let l = k.1 in cc)
]

-- a term with a width is at most 128 wide, and its numbers are small
pub small_of : (g : List (List ℕ × ℕ)) (e : Expr) (w : ℕ) → Held g → width_in g e ≡ Some w → AreSmall e × (w ≤ 128)
small_of g (named n) w h e = (tt, found_held g n w h e)
small_of g (literal v n) w h e =
    let k = literal_parts v n w e in
    let b = bounded_some v w k.1 in
    let p = pow-le-pow_right {n = 2} (omega arith) {i = v} {j = 128} b.1 in
    ((omega (arith, b.1), omega (arith, k.0, p)), omega (arith, b.1, b.2))
small_of g (one_of op a) w h e = small_of g a w h e
small_of g (two_of op a b) w h e =
    let k = same_parts (width_in g a) (width_in g b) w e in
    let l = small_of g a w h k.0 in
    ((l.0, (small_of g b w h k.1).0), l.1)
small_of g (joined a b) w h e =
    let k = joined_parts (width_in g a) (width_in g b) w e in
    let v = bounded_some (k.0 + k.1) w k.4 in
    (((small_of g a k.0 h k.2).0, (small_of g b k.1 h k.3).0), omega (arith, v.1, v.2))
small_of g (cut high low a) w h e =
    let k = cut_parts high low (width_in g a) w e in
    let l = small_of g a k.0 h k.1 in
    ((omega (arith, k.3, l.1), omega (arith, k.2, k.3, l.1), l.0), omega (arith, k.3, k.4, l.1))
small_of g (widened op k a) w h e =
    let p = widened_parts k (width_in g a) w e in
    let v = bounded_some (p.0 + k) w p.2 in
    ((omega (arith, v.1), (small_of g a p.0 h p.1).0), omega (arith, v.1, v.2))
small_of g (chosen t a b x y) w h e =
    let k = tested_parts (same_width (width_in g a) (width_in g b)) (same_width (width_in g x) (width_in g y)) w e in
    let c = same_parts (width_in g a) (width_in g b) k.0 k.1 in
    let d = same_parts (width_in g x) (width_in g y) w k.2 in
    let l = small_of g x w h d.0 in
    (((small_of g a k.0 h c.0).0, (small_of g b k.0 h c.1).0, l.0, (small_of g y w h d.1).0), l.1)

-- behind declarations and definitions
declared_held : (g : List (List ℕ × ℕ)) (ds : List Declared) → Held g → DeclaredFit g ds → Held (behind_declared g ds)
declared_held g [] h f = h
declared_held g (d ∷ ds) h f = let few = f.2 in declared_held ((d.name, d.width) ∷ g) ds (omega (arith, few), h) f.3

pub defined_held : (g : List (List ℕ × ℕ)) (ds : List Defined) → Held g → DefinedFit g ds → Held (behind_defined g ds)
defined_held g [] h f = h
defined_held g (d ∷ ds) h f = defined_held ((d.name, d.width) ∷ g) ds ((small_of g d.body d.width h f.1).1, h) f.3

pub all_held : (ds : List Declared) → DeclaredFit [] ds → Held (behind_declared [] ds)
all_held ds f = declared_held [] ds tt f

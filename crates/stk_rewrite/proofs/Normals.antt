-- Terms of which no part is a left side: how they are made, and what stays of them when a store grows.
use Rattle.std.proofs.Common.{◌≡◌, ℕ, zero, suc, ◌<◌, ◌≤◌, Bool, true, false, ◌&&◌, List, [], ◌∷◌, ◌++◌, length, nat_lt, refl, sym, subst, ◌∙◌, arith}
use Rattle.stk_terms.specs.Terms.{Stored, Term, StandsAt, Adds, Same, More, term_at, nth, child}
use Rattle.stk_terms.specs.Fitting.{IsSound, AreResidues}
use Rattle.stk_terms.specs.Growth.{Keeps}
use Rattle.stk_terms.specs.Parts.{IsPart, Whole, Within}
use Rattle.stk_terms.proofs.Older.{term_kept, child_within, part_kept, number_kept}
use Rattle.stk_terms.proofs.Reading.{child_below}
use Rattle.stk_rewrite.specs.Looks.{look, is_constant, is_add, adds_constant}
use Rattle.stk_rewrite.specs.Rules.{is_left, is_left_at}
use Rattle.stk_rewrite.specs.Normal.{IsNormal, AreNormal, Simplifies}

below_of : (m n : ℕ) → nat_lt m n ≡ true → m < n
below_of m n h = grind arith

beyond_of : (m n : ℕ) → nat_lt m n ≡ false → n ≤ m
beyond_of m n h = grind arith

-- a term is normal where it is no left side and its arguments are normal
pub normal_from : (s : Stored) (v : ℕ) → v < length s.terms → is_left_at s v ≡ false → ((k : ℕ) → k < length (term_at s v).args → IsNormal s (child s v k)) → IsNormal s v
normal_from s v h l f = record { exists_ = h; none = λ j p. by j v p l f }
  where
    by : (j i : ℕ) → IsPart s j i → is_left_at s i ≡ false → ((k : ℕ) → k < length (term_at s i).args → IsNormal s (child s i k)) → is_left_at s j ≡ false
    by j _ (Whole i e) l f = subst (λ k. is_left_at s k ≡ false) e l
    by j _ (Within i k m p) l f = (f k m).none j p

module _ (s : Stored) (sound : IsSound s) where
  -- arguments of normal terms are normal
  pub normal_child : (i k : ℕ) → IsNormal s i → k < length (term_at s i).args → IsNormal s (child s i k)
  normal_child i k n l =
      let b : child s i k < i = child_below s sound i k n.exists_ l in
      record { exists_ = omega (arith, b, n.exists_); none = λ j p. n.none j (Within i k l p) }

  pub normal_here : (i : ℕ) → IsNormal s i → is_left_at s i ≡ false
  normal_here i n = n.none i (Whole i (λ _. i))

-- in a store without left sides each term is normal
pub all_normal : (s : Stored) → IsSound s → AreNormal s → (i : ℕ) → i < length s.terms → IsNormal s i
all_normal s sound all i h = record { exists_ = h; none = λ j p. by j i h p }
  where
    by : (j i : ℕ) → i < length s.terms → IsPart s j i → is_left_at s j ≡ false
    by j _ h (Whole i e) = subst (λ k. is_left_at s k ≡ false) e (all.each i h)
    by j _ h (Within i k m p) = by j (child s i k) (let b : child s i k < i = child_below s sound i k h m in omega (arith, b, h)) p

last_at : (ts : List Term) (t : Term) (v : ℕ) → length ts ≤ v → v < length (ts ++ t ∷ []) → StandsAt (ts ++ t ∷ []) v t
last_at [] t zero l h = refl
last_at [] t (suc v) l h = absurd (omega arith)
last_at (u ∷ ts) t zero l h = absurd (omega arith)
last_at (u ∷ ts) t (suc v) l h = last_at ts t v (omega arith) (omega arith)

module _ (old new : Stored) (sound : IsSound old) (keeps : Keeps old new) where
  adds_kept : (i : ℕ) → i < length old.terms → adds_constant new i ≡ adds_constant old i
  adds_kept i h =
      (λ j. is_add (term_kept old new sound keeps i h j).op && is_constant (term_at new (nth (term_kept old new sound keeps i h j).args 1)).op)
      ∙ (λ j. is_add (term_at old i).op && is_constant (term_kept old new sound keeps (child old i 1) (child_within old new sound keeps i 1 h) j).op)

  pub look_kept : (i : ℕ) → i < length old.terms → look new i ≡ look old i
  look_kept i h = λ j. record { id = i; width = keeps.wide i h j; op = (term_kept old new sound keeps i h j).op; first = nth (term_kept old new sound keeps i h j).args 0; adds = adds_kept i h j }

  left_kept : (i : ℕ) → i < length old.terms → is_left_at new i ≡ is_left_at old i
  left_kept i h =
      (λ j. is_left (term_kept old new sound keeps i h j).op (look new (nth (term_kept old new sound keeps i h j).args 0)) (look new (nth (term_kept old new sound keeps i h j).args 1)) (look new (nth (term_kept old new sound keeps i h j).args 2)))
      ∙ (λ j. is_left (term_at old i).op (look_kept (child old i 0) (child_within old new sound keeps i 0 h) j) (look_kept (child old i 1) (child_within old new sound keeps i 1 h) j) (look_kept (child old i 2) (child_within old new sound keeps i 2 h) j))

  pub normal_kept : (i : ℕ) → IsNormal old i → IsNormal new i
  normal_kept i n = record { exists_ = omega (arith, n.exists_, keeps.longer); none = λ j p. let q = part_kept old new sound keeps j i p n.exists_ in left_kept j q.1 ∙ n.none j q.0 }

  -- a term that is added and is no left side
  pub still_normal : (t : Term) → Adds old.terms t new.terms → AreNormal old → ((v : ℕ) → StandsAt new.terms v t → is_left_at new v ≡ false) → AreNormal new
  still_normal t (Same e) all f = record { each = λ v h. older v (subst (λ ts. v < length ts) e h) all }
    where
      older : (v : ℕ) → v < length old.terms → AreNormal old → is_left_at new v ≡ false
      older v h all = left_kept v h ∙ all.each v h
  still_normal t (More e) all f = record { each = λ v h. by v (nat_lt v (length old.terms)) refl h }
    where
      by : (v : ℕ) (b : Bool) → nat_lt v (length old.terms) ≡ b → v < length new.terms → is_left_at new v ≡ false
      by v true q h = let l : v < length old.terms = below_of v (length old.terms) q in left_kept v l ∙ all.each v l
      by v false q h = f v (subst (λ ts. StandsAt ts v t) (sym e) (last_at old.terms t v (beyond_of v (length old.terms) q) (subst (λ ts. v < length ts) e h)))

  -- what stands for an older term in the new store, also by the new store's own numbers
  pub simplifies_here : (i v : ℕ) → i < length old.terms → Simplifies old new i v → Simplifies new new i v
  simplifies_here i v h x = record {
    normal = x.normal;
    wide = x.wide ∙ sym (keeps.wide i h);
    value = λ r q. x.value r (subst (λ l. AreResidues l r) keeps.inputs_stay q) ∙ sym (number_kept old new sound keeps r i h);
  }

  -- and by those of a store before
  pub simplifies_first : (later : Stored) (i v : ℕ) → i < length old.terms → Simplifies new later i v → Simplifies old later i v
  simplifies_first later i v h x = record {
    normal = x.normal;
    wide = x.wide ∙ keeps.wide i h;
    value = λ r q. x.value r (subst (λ l. AreResidues l r) (sym keeps.inputs_stay) q) ∙ number_kept old new sound keeps r i h;
  }

  -- what stood for a term in the store stands for it in a later one
  pub later_on : (i v : ℕ) → i < length old.terms → Simplifies old old i v → Simplifies new new i v
  later_on i v h x = record {
    normal = normal_kept v x.normal;
    wide = keeps.wide v x.normal.exists_ ∙ (x.wide ∙ sym (keeps.wide i h));
    value = λ r q. number_kept old new sound keeps r v x.normal.exists_ ∙ (x.value r (subst (λ l. AreResidues l r) keeps.inputs_stay q) ∙ sym (number_kept old new sound keeps r i h));
  }

-- What a term that is made of a right side is.
use Rattle.std.proofs.Common.{◌≡◌, ℕ, zero, suc, ◌<◌, Bool, true, false, ◌&&◌, List, [], ◌∷◌, length, refl, sym, ap, subst, ◌∙◌, arith, nat_lt}
use Rattle.std.proofs.lemmas.Option.{none-some}
use Rattle.stk_terms.specs.declared.term.TermId.{TermId}
use Rattle.stk_terms.specs.declared.term.TermOp.{TermOp}
use Rattle.stk_terms.specs.declared.term.TermOp.TheVariants.{Constant, Input, Ite}
use Rattle.stk_terms.specs.Terms.{Stored, Term, StandsAt, term_of, term_at, nth}
use Rattle.stk_terms.specs.Fitting.{IsSound, AreResidues, WidthsFit}
use Rattle.stk_terms.specs.Growth.{Keeps}
use Rattle.stk_terms.specs.Values.{Bits, width_by, number_by, width_of, widths_of, meaning, meanings, bits_of, width_at, number_at}
use Rattle.stk_rewrite.specs.Looks.{look, look_number, is_constant, is_add}
use Rattle.stk_rewrite.specs.Rules.{is_left, is_left_at}
use Rattle.stk_rewrite.specs.Normal.{IsNormal}
use Rattle.stk_rewrite.specs.declared.right.Right.TheVariants.{Leaf, Number, One, Two, Last, Chosen}
use Rattle.stk_rewrite.specs.Rights.{CanBuild, IsBuilt}
use Rattle.stk_terms.proofs.Reading.{wide_same}
use Rattle.stk_terms.specs.Cost.{bound_at, bound, bound_of}
use Rattle.stk_terms.proofs.Weighing.{grow, only_has}
use Rattle.stk_terms.proofs.Adding.{keeps_same}
use Rattle.stk_terms.proofs.Older.{got, number_kept, term_kept}
use Rattle.stk_rewrite.proofs.Normals.{normal_from, look_kept, normal_kept}

pub exists_at : (ts : List Term) (i : ℕ) (t : Term) → StandsAt ts i t → i < length ts
exists_at [] i t h = absurd (none-some _ h)
exists_at (u ∷ ts) zero t h = omega arith
exists_at (u ∷ ts) (suc i) t h = omega (arith, exists_at ts i t h)

pub leaf_built : (s : Stored) → IsSound s → (a : TermId) → CanBuild s (Leaf a) → IsBuilt s s (Leaf a) a.0
leaf_built s sound a can = record {
  normal = can.0;
  wide = refl;
  value = λ r h. refl;
  grows = λ c l q. grow s s sound (keeps_same s) c l a.0 (bound_at s a.0) (λ k m. absurd (let e : length (term_at s a.0).args ≡ 0 = can.1 in omega (arith, e, m))) refl;
}

module _ (old new : Stored) (sound : IsSound old) (keeps : Keeps old new) (v : ℕ) where
  -- nowhere is the new term a left side
  pub number_left : (w n : ℕ) → StandsAt new.terms v (term_of (Constant w n) []) → is_left_at new v ≡ false
  number_left w n st =
      let t : term_at new v ≡ term_of (Constant w n) [] = got new.terms v _ _ st in
      λ j. is_left (t j).op (look new (nth (t j).args 0)) (look new (nth (t j).args 1)) (look new (nth (t j).args 2))

  pub input_left : (k : ℕ) → StandsAt new.terms v (term_of (Input k) []) → is_left_at new v ≡ false
  input_left k st =
      let t : term_at new v ≡ term_of (Input k) [] = got new.terms v _ _ st in
      λ j. is_left (t j).op (look new (nth (t j).args 0)) (look new (nth (t j).args 1)) (look new (nth (t j).args 2))

  pub one_left : (op : TermOp) (a : TermId) → CanBuild old (One op a) → StandsAt new.terms v (term_of op (a ∷ [])) → is_left_at new v ≡ false
  one_left op a can st =
      let t : term_at new v ≡ term_of op (a ∷ []) = got new.terms v _ _ st in
      (λ j. is_left (t j).op (look new (nth (t j).args 0)) (look new (nth (t j).args 1)) (look new (nth (t j).args 2)))
      ∙ ((λ j. is_left op (look_kept old new sound keeps a.0 can.0.exists_ j) (look new 0) (look new 0)) ∙ can.3 (look new 0) (look new 0))

  pub two_left : (op : TermOp) (a b : TermId) → CanBuild old (Two op a b) → StandsAt new.terms v (term_of op (a ∷ b ∷ [])) → is_left_at new v ≡ false
  two_left op a b can st =
      let t : term_at new v ≡ term_of op (a ∷ b ∷ []) = got new.terms v _ _ st in
      (λ j. is_left (t j).op (look new (nth (t j).args 0)) (look new (nth (t j).args 1)) (look new (nth (t j).args 2)))
      ∙ ((λ j. is_left op (look_kept old new sound keeps a.0 can.0.exists_ j) (look_kept old new sound keeps b.0 can.1.exists_ j) (look new 0)) ∙ can.4 (look new 0))

  pub chosen_left : (c a b : TermId) → CanBuild old (Chosen c a b) → StandsAt new.terms v (term_of Ite (c ∷ a ∷ b ∷ [])) → is_left_at new v ≡ false
  chosen_left c a b can st =
      let t : term_at new v ≡ term_of Ite (c ∷ a ∷ b ∷ []) = got new.terms v _ _ st in
      (λ j. is_left (t j).op (look new (nth (t j).args 0)) (look new (nth (t j).args 1)) (look new (nth (t j).args 2)))
      ∙ ((λ j. is_left Ite (look_kept old new sound keeps c.0 can.0.exists_ j) (look_kept old new sound keeps a.0 can.1.exists_ j) (look_kept old new sound keeps b.0 can.2.exists_ j)) ∙ can.5)

  pub number_built : (w n : ℕ) → StandsAt new.terms v (term_of (Constant w n) []) → width_at new v ≡ w → ((r : List ℕ) → meaning new r v ≡ bits_of old.inputs r (meanings old r) (term_of (Constant w n) [])) → IsBuilt old new (Number w n) v
  number_built w n st wd val =
      let t : term_at new v ≡ term_of (Constant w n) [] = got new.terms v _ _ st in
      record {
        normal = normal_from new v (exists_at new.terms v _ st) (number_left w n st) (λ k l. absurd (let m : k < 0 = subst (λ u. k < length u.args) t l in omega (arith, m)));
        wide = wd;
        value = λ r h. ap (λ (b : Bits). b.number) (val r);
        grows = λ c l k. grow old new sound keeps c l v 0 (λ k l. absurd (let m : k < 0 = subst (λ u. k < length u.args) t l in omega (arith, m))) (λ j. bound_of (widths_of new) (t j));
      }

  pub one_built : (op : TermOp) (a : TermId) → CanBuild old (One op a) → StandsAt new.terms v (term_of op (a ∷ [])) → width_at new v ≡ width_of old.inputs (widths_of old) (term_of op (a ∷ [])) → ((r : List ℕ) → meaning new r v ≡ bits_of old.inputs r (meanings old r) (term_of op (a ∷ []))) → IsBuilt old new (One op a) v
  one_built op a can st wd val =
      let t : term_at new v ≡ term_of op (a ∷ []) = got new.terms v _ _ st in
      let na = normal_kept old new sound keeps a.0 can.0 in
      record {
        normal = normal_from new v (exists_at new.terms v _ st) (one_left op a can st)
            (λ k l. subst (λ u. IsNormal new (nth u.args k)) (sym t) (kid k (subst (λ u. k < length u.args) t l) na));
        wide = wd;
        value = λ r h. ap (λ (b : Bits). b.number) (val r) ∙ ap (λ w. number_by r op w 0 (number_at old r a.0) 0 0) (wide_same old sound r a.0);
        grows = λ c l q. grow old new sound keeps c l v (bound op (width_at old a.0) 0) (λ k m. subst (λ u. (c (nth u.args k) && nat_lt (nth u.args k) (length old.terms)) ≡ true) (sym t) (had c k (subst (λ u. k < length u.args) t m) (only_has old new sound keeps c l a.0 can.0.exists_ q))) ((λ j. bound_of (widths_of new) (t j)) ∙ (λ j. bound op (keeps.wide a.0 can.0.exists_ j) 0));
      }
    where
      kid : (k : ℕ) → k < 1 → IsNormal new a.0 → IsNormal new (nth (a ∷ []) k)
      kid zero l na = na
      kid (suc k) l na = absurd (omega arith)

      had : (c : ℕ → Bool) (k : ℕ) → k < 1 → (c a.0 && nat_lt a.0 (length old.terms)) ≡ true → (c (nth (a ∷ []) k) && nat_lt (nth (a ∷ []) k) (length old.terms)) ≡ true
      had c zero l h = h
      had c (suc k) l h = absurd (omega arith)

  pub two_built : (op : TermOp) (a b : TermId) → CanBuild old (Two op a b) → StandsAt new.terms v (term_of op (a ∷ b ∷ [])) → width_at new v ≡ width_of old.inputs (widths_of old) (term_of op (a ∷ b ∷ [])) → ((r : List ℕ) → meaning new r v ≡ bits_of old.inputs r (meanings old r) (term_of op (a ∷ b ∷ []))) → IsBuilt old new (Two op a b) v
  two_built op a b can st wd val =
      let t : term_at new v ≡ term_of op (a ∷ b ∷ []) = got new.terms v _ _ st in
      let na = normal_kept old new sound keeps a.0 can.0 in
      let nb = normal_kept old new sound keeps b.0 can.1 in
      record {
        normal = normal_from new v (exists_at new.terms v _ st) (two_left op a b can st)
            (λ k l. subst (λ u. IsNormal new (nth u.args k)) (sym t) (kid k (subst (λ u. k < length u.args) t l) na nb));
        wide = wd;
        value = λ r h. ap (λ (b : Bits). b.number) (val r) ∙ (λ j. number_by r op (wide_same old sound r a.0 j) (wide_same old sound r b.0 j) (number_at old r a.0) (number_at old r b.0) 0);
        grows = λ c l q. grow old new sound keeps c l v (bound op (width_at old a.0) (width_at old b.0)) (λ k m. subst (λ u. (c (nth u.args k) && nat_lt (nth u.args k) (length old.terms)) ≡ true) (sym t) (had c k (subst (λ u. k < length u.args) t m) (only_has old new sound keeps c l a.0 can.0.exists_ q.0) (only_has old new sound keeps c l b.0 can.1.exists_ q.1))) ((λ j. bound_of (widths_of new) (t j)) ∙ (λ j. bound op (keeps.wide a.0 can.0.exists_ j) (keeps.wide b.0 can.1.exists_ j)));
      }
    where
      kid : (k : ℕ) → k < 2 → IsNormal new a.0 → IsNormal new b.0 → IsNormal new (nth (a ∷ b ∷ []) k)
      kid zero l na nb = na
      kid (suc zero) l na nb = nb
      kid (suc (suc k)) l na nb = absurd (omega arith)

      had : (c : ℕ → Bool) (k : ℕ) → k < 2 → (c a.0 && nat_lt a.0 (length old.terms)) ≡ true → (c b.0 && nat_lt b.0 (length old.terms)) ≡ true → (c (nth (a ∷ b ∷ []) k) && nat_lt (nth (a ∷ b ∷ []) k) (length old.terms)) ≡ true
      had c zero l h i = h
      had c (suc zero) l h i = i
      had c (suc (suc k)) l h i = absurd (omega arith)

  pub chosen_built : (c a b : TermId) → CanBuild old (Chosen c a b) → StandsAt new.terms v (term_of Ite (c ∷ a ∷ b ∷ [])) → width_at new v ≡ width_of old.inputs (widths_of old) (term_of Ite (c ∷ a ∷ b ∷ [])) → ((r : List ℕ) → meaning new r v ≡ bits_of old.inputs r (meanings old r) (term_of Ite (c ∷ a ∷ b ∷ []))) → IsBuilt old new (Chosen c a b) v
  chosen_built c a b can st wd val =
      let t : term_at new v ≡ term_of Ite (c ∷ a ∷ b ∷ []) = got new.terms v _ _ st in
      let nc = normal_kept old new sound keeps c.0 can.0 in
      let na = normal_kept old new sound keeps a.0 can.1 in
      let nb = normal_kept old new sound keeps b.0 can.2 in
      record {
        normal = normal_from new v (exists_at new.terms v _ st) (chosen_left c a b can st)
            (λ k l. subst (λ u. IsNormal new (nth u.args k)) (sym t) (kid k (subst (λ u. k < length u.args) t l) nc na nb));
        wide = wd;
        value = λ r h. ap (λ (b : Bits). b.number) (val r);
        grows = λ g l q. grow old new sound keeps g l v (bound Ite 1 (width_at old a.0)) (λ k m. subst (λ u. (g (nth u.args k) && nat_lt (nth u.args k) (length old.terms)) ≡ true) (sym t) (had g k (subst (λ u. k < length u.args) t m) (only_has old new sound keeps g l c.0 can.0.exists_ q.0) (only_has old new sound keeps g l a.0 can.1.exists_ q.1) (only_has old new sound keeps g l b.0 can.2.exists_ q.2))) ((λ j. bound_of (widths_of new) (t j)) ∙ (λ j. bound Ite ((keeps.wide c.0 can.0.exists_ ∙ can.3) j) (keeps.wide a.0 can.1.exists_ j)));
      }
    where
      had : (g : ℕ → Bool) (k : ℕ) → k < 3 → (g c.0 && nat_lt c.0 (length old.terms)) ≡ true → (g a.0 && nat_lt a.0 (length old.terms)) ≡ true → (g b.0 && nat_lt b.0 (length old.terms)) ≡ true → (g (nth (c ∷ a ∷ b ∷ []) k) && nat_lt (nth (c ∷ a ∷ b ∷ []) k) (length old.terms)) ≡ true
      had g zero l h i j = h
      had g (suc zero) l h i j = i
      had g (suc (suc zero)) l h i j = j
      had g (suc (suc (suc k))) l h i j = absurd (omega arith)

      kid : (k : ℕ) → k < 3 → IsNormal new c.0 → IsNormal new a.0 → IsNormal new b.0 → IsNormal new (nth (c ∷ a ∷ b ∷ []) k)
      kid zero l nc na nb = nc
      kid (suc zero) l nc na nb = na
      kid (suc (suc zero)) l nc na nb = nb
      kid (suc (suc (suc k))) l nc na nb = absurd (omega arith)

-- a constant first, and then the operator over it
module _ (old mid : Stored) (sound : IsSound old) (g : Keeps old mid) (op : TermOp) (a k : TermId) (w n : ℕ) (can : CanBuild old (Last op a w n)) (c : IsBuilt old mid (Number w n) k.0) (t : term_at mid k.0 ≡ term_of (Constant w n) []) where
  look_new : look mid k.0 ≡ look_number k.0 w n
  look_new = λ j. record { id = k.0; width = c.wide j; op = (t j).op; first = nth (t j).args 0; adds = is_add (t j).op && is_constant (term_at mid (nth (t j).args 1)).op }

  other : k.0 ≡ a.0 → ⊥
  other e =
      let p : is_constant (term_at mid a.0).op ≡ true = subst (λ i. is_constant (term_at mid i).op ≡ true) e (ap (λ (u : Term). is_constant u.op) t) in
      let q : is_constant (term_at mid a.0).op ≡ false = ap (λ (u : Term). is_constant u.op) (term_kept old mid sound g a.0 can.0.exists_) ∙ can.4 in
      cc

  pub last_can : CanBuild mid (Two op a k)
  last_can =
      let wa = g.wide a.0 can.0.exists_ in
      (normal_kept old mid sound g a.0 can.0, c.normal, can.2, (subst (λ l. WidthsFit l op (width_at mid a.0) (width_at mid k.0) 0) (sym g.inputs_stay) (subst (λ u. WidthsFit old.inputs op u (width_at mid k.0) 0) (sym wa) (subst (λ u. WidthsFit old.inputs op (width_at old a.0) u 0) (sym c.wide) can.3))), λ l. (λ j. is_left op (look_kept old mid sound g a.0 can.0.exists_ j) (look_new j) l) ∙ can.5 k.0 l other)

  pub last_built : (new : Stored) (v : ℕ) → IsBuilt mid new (Two op a k) v → IsBuilt old new (Last op a w n) v
  last_built new v b = record {
    normal = b.normal;
    wide = b.wide ∙ (λ j. width_by (g.inputs_stay j) op (g.wide a.0 can.0.exists_ j) (c.wide j));
    value = λ r h. b.value r (subst (λ l. AreResidues l r) (sym g.inputs_stay) h) ∙ (λ j. number_by r op (g.wide a.0 can.0.exists_ j) (c.wide j) (number_kept old mid sound g r a.0 can.0.exists_ j) (c.value r h j) 0);
    grows = λ d l q.
        let x = c.grows d l tt in
        let y = b.grows x.more x.closed (x.extends a.0 can.0.exists_ q, x.has) in
        let e : bound op (width_at mid a.0) (width_at mid k.0) ≡ bound op (width_at old a.0) w = (λ j. bound op (g.wide a.0 can.0.exists_ j) (c.wide j)) in
        record { more = y.more; closed = y.closed; extends = λ i h z. y.extends i (longer i h) (x.extends i h z); has = y.has; within = omega (arith, x.within, y.within, e) };
  }
    where
      longer : (i : ℕ) → i < length old.terms → i < length mid.terms
      longer i h = omega (arith, g.longer)

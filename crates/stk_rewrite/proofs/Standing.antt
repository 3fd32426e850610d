-- What stands for a term, from what stands for its arguments.
use Rattle.std.proofs.Common.{◌≡◌, ℕ, zero, suc, ◌<◌, ◌≤◌, Bool, true, false, List, [], ◌∷◌, ◌++◌, length, get_or, refl, sym, ap, subst, ◌∙◌, arith, nat_eq, if◌then◌else◌}
use Rattle.stk_terms.specs.declared.term.TermId.{TermId}
use Rattle.stk_terms.specs.declared.term.TermOp.{TermOp}
use Rattle.stk_terms.specs.declared.term.TermOp.TheVariants.{Constant, Input, And, Or, Xor, Add, Sub, Mul, UDiv, URem, Shl, LShr, AShr, Eq, ULt, SLt, Concat, Ite}
use Rattle.stk_terms.specs.Terms.{Stored, StandsAt, term_of, term_at, nth, child}
use Rattle.stk_terms.specs.Fitting.{IsSound, WidthsFit, arity}
use Rattle.stk_terms.specs.Growth.{Keeps}
use Rattle.stk_terms.specs.Values.{width_by, number_by, widths_of, width_at, number_at}
use Rattle.stk_terms.specs.Cost.{bound, bound_of, bound_at, IsClosed}
use Rattle.stk_rewrite.specs.Looks.{Look, look}
use Rattle.stk_rewrite.specs.Rules.{is_left}
use Rattle.stk_rewrite.specs.Normal.{IsNormal, Simplifies, AreSimplified, ChildrenDone}
use Rattle.stk_rewrite.specs.Readings.{ArePair}
use Rattle.stk_rewrite.specs.declared.right.Right.{Right}
use Rattle.stk_rewrite.specs.declared.right.Right.TheVariants.{Leaf, One, Two, Chosen}
use Rattle.stk_rewrite.specs.Rights.{Replaces, StandsFor}
use Rattle.stk_terms.proofs.Reading.{fits, one_arg, two_args, three_args, child_below}
use Rattle.stk_terms.proofs.Older.{got, term_kept}
use Rattle.stk_rewrite.proofs.Normals.{normal_from, later_on}

none_left : (op : TermOp) (a b c : Look) → arity op ≡ 0 → is_left op a b c ≡ false
none_left (Constant w n) a b c h = refl
none_left (Input k) a b c h = refl
none_left _ a b c h = absurd (omega arith)

-- a term without arguments is normal
pub leaf_normal : (s : Stored) (v : ℕ) (op : TermOp) → arity op ≡ 0 → v < length s.terms → StandsAt s.terms v (term_of op []) → IsNormal s v
leaf_normal s v op a here st =
    let t : term_at s v ≡ term_of op [] = got s.terms v _ _ st in
    normal_from s v here
    ((λ j. is_left (t j).op (look s (nth (t j).args 0)) (look s (nth (t j).args 1)) (look s (nth (t j).args 2))) ∙ none_left op (look s 0) (look s 0) (look s 0) a)
    (λ k l. absurd (let m : k < 0 = subst (λ u. k < length u.args) t l in omega (arith, m)))

few : (op : TermOp) → arity op ≤ 3
few (Constant w n) = omega arith
few (Input k) = omega arith
few _ = omega arith

pub pair_alike : (op : TermOp) (inputs : List ℕ) (w0 w1 w2 : ℕ) → arity op ≡ 2 → (op ≡ Concat → ⊥) → WidthsFit inputs op w0 w1 w2 → w0 ≡ w1
pair_alike And inputs w0 w1 w2 h n f = f
pair_alike Or inputs w0 w1 w2 h n f = f
pair_alike Xor inputs w0 w1 w2 h n f = f
pair_alike Add inputs w0 w1 w2 h n f = f
pair_alike Sub inputs w0 w1 w2 h n f = f
pair_alike Mul inputs w0 w1 w2 h n f = f
pair_alike UDiv inputs w0 w1 w2 h n f = f
pair_alike URem inputs w0 w1 w2 h n f = f
pair_alike Shl inputs w0 w1 w2 h n f = f
pair_alike LShr inputs w0 w1 w2 h n f = f
pair_alike AShr inputs w0 w1 w2 h n f = f
pair_alike Eq inputs w0 w1 w2 h n f = f
pair_alike ULt inputs w0 w1 w2 h n f = f
pair_alike SLt inputs w0 w1 w2 h n f = f
pair_alike Concat inputs w0 w1 w2 h n f = absurd (n refl)
pair_alike _ inputs w0 w1 w2 h n f = absurd (omega arith)

pub is_ite : (op : TermOp) → arity op ≡ 3 → op ≡ Ite
is_ite Ite h = refl
is_ite _ h = absurd (omega arith)

module _ (s : Stored) (sound : IsSound s) (i : ℕ) (h : i < length s.terms) where
  pub arity_at : (n : ℕ) → length (term_at s i).args ≡ n → arity (term_at s i).op ≡ n
  arity_at n e = sym (fits s sound i h).arity_is ∙ e

  module _ (op : TermOp) (e : (term_at s i).op ≡ op) where
    pub fits_one : (d : TermId) → arity op ≡ 1 → Simplifies s s (child s i 0) d.0 → WidthsFit s.inputs op (width_at s d.0) 0 0
    fits_one d a x = subst (λ w. WidthsFit s.inputs op w 0 0) (sym x.wide) (one_arg s sound i h op e a).fits

    pub stands_one : (d : TermId) (r : Right) → arity op ≡ 1 → Simplifies s s (child s i 0) d.0 → Replaces s (One op d) r → StandsFor s i r
    stands_one d r a x p =
        let q = one_arg s sound i h op e a in
        let u : bound op (width_at s d.0) 0 ≡ bound_of (widths_of s) (term_at s i) = (λ j. bound op (x.wide j) 0) ∙ sym q.charge in
        record {
          built = p.built;
          wide = p.wide ∙ ((λ j. width_by s.inputs op (x.wide j) 0) ∙ sym q.wide);
          value = λ l k. p.value l k ∙ ((λ j. number_by l op (x.wide j) 0 (x.value l k j) 0 0) ∙ sym (q.value l));
          cheap = omega (arith, p.cheap, u);
        }

    pub fits_two : (d f : TermId) → arity op ≡ 2 → Simplifies s s (child s i 0) d.0 → Simplifies s s (child s i 1) f.0 → WidthsFit s.inputs op (width_at s d.0) (width_at s f.0) 0
    fits_two d f a x y = subst (λ w. WidthsFit s.inputs op w (width_at s f.0) 0) (sym x.wide) (subst (λ w. WidthsFit s.inputs op (width_at s (child s i 0)) w 0) (sym y.wide) (two_args s sound i h op e a).fits)

    pub stands_two : (d f : TermId) (r : Right) → arity op ≡ 2 → Simplifies s s (child s i 0) d.0 → Simplifies s s (child s i 1) f.0 → Replaces s (Two op d f) r → StandsFor s i r
    stands_two d f r a x y p =
        let q = two_args s sound i h op e a in
        let u : bound op (width_at s d.0) (width_at s f.0) ≡ bound_of (widths_of s) (term_at s i) = (λ j. bound op (x.wide j) (y.wide j)) ∙ sym q.charge in
        record {
          built = p.built;
          wide = p.wide ∙ ((λ j. width_by s.inputs op (x.wide j) (y.wide j)) ∙ sym q.wide);
          value = λ l k. p.value l k ∙ ((λ j. number_by l op (x.wide j) (y.wide j) (x.value l k j) (y.value l k j) 0) ∙ sym (q.value l));
          cheap = omega (arith, p.cheap, u);
        }

  module _ (a : length (term_at s i).args ≡ 3) (t d f : TermId) (z : Simplifies s s (child s i 0) t.0) (x : Simplifies s s (child s i 1) d.0) (y : Simplifies s s (child s i 2) f.0) where
    pub one_at : width_at s t.0 ≡ 1
    one_at = z.wide ∙ (three_args s sound i h (term_at s i).op refl (is_ite _ (arity_at 3 a))).one

    pub chosen_pair : ArePair s d.0 f.0
    chosen_pair = record { first = x.normal; second = y.normal; alike = x.wide ∙ ((three_args s sound i h (term_at s i).op refl (is_ite _ (arity_at 3 a))).alike ∙ sym y.wide) }

    pub stands_chosen : (r : Right) → Replaces s (Chosen t d f) r → StandsFor s i r
    stands_chosen r p =
        let q = three_args s sound i h (term_at s i).op refl (is_ite _ (arity_at 3 a)) in
        let u : bound Ite 1 (width_at s d.0) ≡ bound_of (widths_of s) (term_at s i) = (λ j. bound Ite 1 (x.wide j)) ∙ sym q.charge in
        record {
          built = p.built;
          wide = p.wide ∙ (x.wide ∙ sym q.wide);
          value = λ l k. p.value l k ∙ ((λ j. if nat_eq (z.value l k j) 1 then x.value l k j else y.value l k j) ∙ sym (q.value l));
          cheap = omega (arith, p.cheap, u);
        }

  -- a term without arguments
  pub stands_itself : (v : TermId) → v.0 ≡ i → (length (term_at s i).args ≡ 1 → ⊥) → (length (term_at s i).args ≡ 2 → ⊥) → (length (term_at s i).args ≡ 3 → ⊥) → StandsFor s i (Leaf v)
  stands_itself v e n1 n2 n3 =
      let m : length (term_at s i).args ≤ 3 = omega (arith, (fits s sound i h).arity_is, few (term_at s i).op) in
      let z : length (term_at s i).args ≡ 0 = none (length (term_at s i).args) m n1 n2 n3 in
      record {
        built = (subst (IsNormal s) (sym e) (normal_from s i h (none_left (term_at s i).op (look s (child s i 0)) (look s (child s i 1)) (look s (child s i 2)) (arity_at 0 z)) (λ k l. absurd (omega (arith, z, l)))), subst (λ n. length (term_at s n).args ≡ 0) (sym e) z);
        wide = ap (width_at s) e;
        value = λ l k. ap (number_at s l) e;
        cheap = (let u : bound_at s v.0 ≡ bound_at s i = ap (bound_at s) e in omega (arith, u));
      }
    where
      none : (n : ℕ) → n ≤ 3 → (n ≡ 1 → ⊥) → (n ≡ 2 → ⊥) → (n ≡ 3 → ⊥) → n ≡ 0
      none zero m a b c = refl
      none (suc zero) m a b c = absurd (a refl)
      none (suc (suc zero)) m a b c = absurd (b refl)
      none (suc (suc (suc zero))) m a b c = absurd (c refl)
      none (suc (suc (suc (suc n)))) m a b c = absurd (omega arith)

pub all_later : (old new : Stored) (q : ℕ → Bool) (done : List TermId) → IsSound old → Keeps old new → length done ≤ length old.terms → AreSimplified old q done → AreSimplified new q done
all_later old new q done sound k l all = λ i e h z. later_on old new sound k i (get_or done i e).0 (omega arith) (all i e h z)

pub behind : (P : ℕ → ℕ → Type 0) (done : List TermId) (v : TermId) → ((k : ℕ) (e : TermId) → k < length done → P k (get_or done k e).0) → P (length done) v.0 → (k : ℕ) (e : TermId) → k < length (done ++ v ∷ []) → P k (get_or (done ++ v ∷ []) k e).0
behind P [] v all p zero e h = p
behind P [] v all p (suc k) e h = absurd (omega arith)
behind P (d ∷ done) v all p zero e h = all zero e (omega arith)
behind P (d ∷ done) v all p (suc k) e h = behind (λ j. P (suc j)) done v (λ j e l. all (suc j) e (omega arith)) p k e (omega arith)

-- one term more
pub one_more : (s : Stored) (q : ℕ → Bool) (done : List TermId) (v : TermId) → AreSimplified s q done → (q (length done) ≡ true → Simplifies s s (length done) v.0) → AreSimplified s q (done ++ v ∷ [])
one_more s q done v all x = behind (λ k u. q k ≡ true → Simplifies s s k u) done v all x

-- the arguments of a chosen term are chosen, so what stands for them is there
pub children_done : (first s : Stored) (q : ℕ → Bool) (done : List TermId) (i : ℕ) → IsSound first → Keeps first s → IsClosed first q → AreSimplified s q done → length done ≡ i → i < length first.terms → q i ≡ true → ChildrenDone s done i
children_done first s q done i sound keeps closed all count h e = λ k d l.
    let t = term_kept first s sound keeps i h in
    let m = subst (λ u. k < length u.args) t l in
    let f : child s i k ≡ child first i k = ap (λ u. nth u.args k) t in
    let b : child first i k < i = child_below first sound i k h m in
    subst (λ n. Simplifies s s n (get_or done n d).0) (sym f) (all (child first i k) d (omega (arith, b, count)) (closed.closed i k e m))

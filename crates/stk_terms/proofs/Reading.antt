-- What stands at the places of a store.
use Rattle.std.proofs.Common.{◌≡◌, ℕ, zero, suc, ◌^◌, ◌<◌, ◌≤◌, List, [], ◌∷◌, length, get_or, slice_get, Some, refl, sym, ap, subst, ◌∙◌, arith, nat_eq, if◌then◌else◌}
use Rattle.std.proofs.Math.Nat.{zero-add}
use Rattle.stk_terms.specs.declared.term.TermOp.{TermOp}
use Rattle.stk_terms.specs.declared.term.TermOp.TheVariants.{Ite}
use Rattle.stk_terms.specs.declared.term.TermId.{TermId}
use Rattle.stk_terms.specs.Terms.{Term, Stored, StandsAt, term_at, nth, child}
use Rattle.stk_terms.specs.Fitting.{IsSound, Fits, AreBelow, AreResidues, WidthsFit, arity}
use Rattle.stk_terms.specs.Values.{Bits, none, width_by, number_by, width_of, widths_of, arg_at, meaning, meanings, bits_of, width_at, number_at}
use Rattle.stk_terms.specs.Cost.{bound, bound_of}
use Rattle.stk_terms.proofs.Growing.{long, behind, meaning_at, width_at_term, width_at as width_at_place, widths_same}
use Rattle.stk_terms.proofs.Args.{fits_at, below_at}
use Rattle.stk_terms.proofs.Below.{all_below, all_wide, no_bits, no_widths}

pub stands : (ts : List Term) (i : ℕ) (d : Term) → i < length ts → slice_get ts i ≡ Some (get_or ts i d)
stands [] i d h = absurd (omega arith)
stands (t ∷ ts) zero d h = refl
stands (t ∷ ts) (suc i) d h = stands ts i d (omega arith)

pub arg_nth : {A : Type 0} (d : A) (done : List A) (args : List TermId) (k : ℕ) → k < length args → arg_at d done args k ≡ get_or done (nth args k) d
arg_nth d done [] k h = absurd (omega arith)
arg_nth d done (a ∷ args) zero h = refl
arg_nth d done (a ∷ args) (suc k) h = arg_nth d done args k (omega arith)

pub arg_none : {A : Type 0} (d : A) (done : List A) (args : List TermId) (k : ℕ) → length args ≤ k → arg_at d done args k ≡ d
arg_none d done [] k h = refl
arg_none d done (a ∷ args) zero h = absurd (omega arith)
arg_none d done (a ∷ args) (suc k) h = arg_none d done args k (omega arith)

pub nth_below : (n : ℕ) (args : List TermId) (k : ℕ) → AreBelow n args → k < length args → nth args k < n
nth_below n [] k b h = absurd (omega arith)
nth_below n (a ∷ args) zero b h = b.0
nth_below n (a ∷ args) (suc k) b h = nth_below n args k b.1 (omega arith)

pub nth_get : (args : List TermId) (k : ℕ) (e : TermId) → k < length args → (get_or args k e).0 ≡ nth args k
nth_get [] k e h = absurd (omega arith)
nth_get (a ∷ args) zero e h = refl
nth_get (a ∷ args) (suc k) e h = nth_get args k e (omega arith)

pub nth_none : (args : List TermId) (k : ℕ) → length args ≤ k → nth args k ≡ 0
nth_none [] k h = refl
nth_none (a ∷ args) zero h = absurd (omega arith)
nth_none (a ∷ args) (suc k) h = nth_none args k (omega arith)

-- an operator over two
pub record Pair (s : Stored) (i : ℕ) (op : TermOp) : Type 0 where
  pub many : length (term_at s i).args ≡ 2
  pub first : child s i 0 < i
  pub second : child s i 1 < i
  pub fits : WidthsFit s.inputs op (width_at s (child s i 0)) (width_at s (child s i 1)) 0
  pub wide : width_at s i ≡ width_by s.inputs op (width_at s (child s i 0)) (width_at s (child s i 1))
  pub value : (r : List ℕ) → number_at s r i ≡ number_by r op (width_at s (child s i 0)) (width_at s (child s i 1)) (number_at s r (child s i 0)) (number_at s r (child s i 1)) 0
  pub charge : bound_of (widths_of s) (term_at s i) ≡ bound op (width_at s (child s i 0)) (width_at s (child s i 1))

-- an operator over one
pub record Alone (s : Stored) (i : ℕ) (op : TermOp) : Type 0 where
  pub many : length (term_at s i).args ≡ 1
  pub first : child s i 0 < i
  pub fits : WidthsFit s.inputs op (width_at s (child s i 0)) 0 0
  pub wide : width_at s i ≡ width_by s.inputs op (width_at s (child s i 0)) 0
  pub value : (r : List ℕ) → number_at s r i ≡ number_by r op (width_at s (child s i 0)) 0 (number_at s r (child s i 0)) 0 0
  pub charge : bound_of (widths_of s) (term_at s i) ≡ bound op (width_at s (child s i 0)) 0

-- one of two
pub record Triple (s : Stored) (i : ℕ) : Type 0 where
  pub first : child s i 0 < i
  pub second : child s i 1 < i
  pub third : child s i 2 < i
  pub one : width_at s (child s i 0) ≡ 1
  pub alike : width_at s (child s i 1) ≡ width_at s (child s i 2)
  pub wide : width_at s i ≡ width_at s (child s i 1)
  pub value : (r : List ℕ) → number_at s r i ≡ (if nat_eq (number_at s r (child s i 0)) 1 then number_at s r (child s i 1) else number_at s r (child s i 2))
  pub charge : bound_of (widths_of s) (term_at s i) ≡ bound Ite 1 (width_at s (child s i 1))

-- an operator without arguments
pub record Leaf (s : Stored) (i : ℕ) (op : TermOp) : Type 0 where
  pub many : length (term_at s i).args ≡ 0
  pub fits : WidthsFit s.inputs op 0 0 0
  pub wide : width_at s i ≡ width_by s.inputs op 0 0
  pub value : (r : List ℕ) → number_at s r i ≡ number_by r op 0 0 0 0 0
  pub charge : bound_of (widths_of s) (term_at s i) ≡ bound op 0 0

module _ (s : Stored) (sound : IsSound s) where
  pub there : (i : ℕ) → i < length s.terms → StandsAt s.terms i (term_at s i)
  there i h = stands s.terms i _ h

  pub wide_same : (r : List ℕ) (i : ℕ) → (meaning s r i).width ≡ width_at s i
  wide_same r i = sym (width_at_place (meanings s r) i) ∙ ap (λ l. get_or l i 0) (widths_same s.inputs r [] s.terms)

  pub fits : (i : ℕ) → i < length s.terms → Fits s.inputs (widths_of s) (term_at s i)
  fits i h = fits_at s.inputs [] s.terms i (term_at s i) sound.fit (there i h)

  pub below_own : (i : ℕ) → i < length s.terms → AreBelow i (term_at s i).args
  below_own i h = subst (λ n. AreBelow n (term_at s i).args) (zero-add i) (below_at 0 s.terms i (term_at s i) (behind s.inputs [] s.terms sound.fit) (there i h))

  pub child_below : (i k : ℕ) → i < length s.terms → k < length (term_at s i).args → child s i k < i
  child_below i k h l = nth_below i (term_at s i).args k (below_own i h) l

  pub count : length (widths_of s) ≡ length s.terms
  count = long (width_of s.inputs) [] s.terms ∙ zero-add (length s.terms)

  pub below : (r : List ℕ) (i : ℕ) → AreResidues s.inputs r → number_at s r i < 2 ^ width_at s i
  below r i h = subst (λ w. number_at s r i < 2 ^ w) (wide_same r i) ((all_below s.inputs r [] s.terms h sound.fit no_bits).below i)

  pub most : (i : ℕ) → width_at s i ≤ 128
  most i = (all_wide s.inputs [] s.terms sound.widths_are sound.fit no_widths).most i

  pub least : (i : ℕ) → i < length s.terms → 1 ≤ width_at s i
  least i h = (all_wide s.inputs [] s.terms sound.widths_are sound.fit no_widths).least i (omega (arith, count))

  pub means : (r : List ℕ) (i : ℕ) → i < length s.terms → meaning s r i ≡ bits_of s.inputs r (meanings s r) (term_at s i)
  means r i h = meaning_at s r i (term_at s i) sound.fit (there i h)

  pub width_means : (i : ℕ) → i < length s.terms → width_at s i ≡ width_of s.inputs (widths_of s) (term_at s i)
  width_means i h = width_at_term s i (term_at s i) sound.fit (there i h)

  module _ (i : ℕ) (h : i < length s.terms) (op : TermOp) (e : (term_at s i).op ≡ op) where
    abbrev args : List TermId
    args = (term_at s i).args

    many : length args ≡ arity op
    many = (fits i h).arity_is ∙ ap arity e

    wide_arg : (k : ℕ) → k < length args → arg_at 0 (widths_of s) args k ≡ width_at s (child s i k)
    wide_arg k l = arg_nth 0 (widths_of s) args k l

    mean_arg : (r : List ℕ) (k : ℕ) → k < length args → arg_at none (meanings s r) args k ≡ meaning s r (child s i k)
    mean_arg r k l = arg_nth none (meanings s r) args k l

    pub two_args : arity op ≡ 2 → Pair s i op
    two_args a =
        let n : length args ≡ 2 = many ∙ a in
        let l0 : 0 < length args = omega (arith, n) in
        let l1 : 1 < length args = omega (arith, n) in
        let l2 : length args ≤ 2 = omega (arith, n) in
        record {
          many = n;
          first = child_below i 0 h l0;
          second = child_below i 1 h l1;
          fits = subst (λ o. WidthsFit s.inputs o (width_at s (child s i 0)) (width_at s (child s i 1)) 0) e (subst (λ w. WidthsFit s.inputs (term_at s i).op (width_at s (child s i 0)) (width_at s (child s i 1)) w) (arg_none 0 (widths_of s) args 2 l2) (subst (λ w. WidthsFit s.inputs (term_at s i).op (width_at s (child s i 0)) w (arg_at 0 (widths_of s) args 2)) (wide_arg 1 l1) (subst (λ w. WidthsFit s.inputs (term_at s i).op w (arg_at 0 (widths_of s) args 1) (arg_at 0 (widths_of s) args 2)) (wide_arg 0 l0) (fits i h).widths_fit)));
          wide = width_means i h ∙ (λ j. width_by s.inputs (e j) (wide_arg 0 l0 j) (wide_arg 1 l1 j));
          charge = λ j. bound (e j) (wide_arg 0 l0 j) (wide_arg 1 l1 j);
          value = λ r. ap (λ (b : Bits). b.number) (means r i h) ∙ ((λ j. number_by r (e j) (mean_arg r 0 l0 j).width (mean_arg r 1 l1 j).width (mean_arg r 0 l0 j).number (mean_arg r 1 l1 j).number (arg_none none (meanings s r) args 2 l2 j).number) ∙ (λ j. number_by r op (wide_same r (child s i 0) j) (wide_same r (child s i 1) j) (number_at s r (child s i 0)) (number_at s r (child s i 1)) 0));
        }

    pub no_args : arity op ≡ 0 → Leaf s i op
    no_args a =
        let n : length args ≡ 0 = many ∙ a in
        let l0 : length args ≤ 0 = omega (arith, n) in
        let l1 : length args ≤ 1 = omega (arith, n) in
        let l2 : length args ≤ 2 = omega (arith, n) in
        record {
          many = n;
          fits = subst (λ o. WidthsFit s.inputs o 0 0 0) e (subst (λ w. WidthsFit s.inputs (term_at s i).op 0 0 w) (arg_none 0 (widths_of s) args 2 l2) (subst (λ w. WidthsFit s.inputs (term_at s i).op 0 w (arg_at 0 (widths_of s) args 2)) (arg_none 0 (widths_of s) args 1 l1) (subst (λ w. WidthsFit s.inputs (term_at s i).op w (arg_at 0 (widths_of s) args 1) (arg_at 0 (widths_of s) args 2)) (arg_none 0 (widths_of s) args 0 l0) (fits i h).widths_fit)));
          wide = width_means i h ∙ (λ j. width_by s.inputs (e j) (arg_none 0 (widths_of s) args 0 l0 j) (arg_none 0 (widths_of s) args 1 l1 j));
          charge = λ j. bound (e j) (arg_none 0 (widths_of s) args 0 l0 j) (arg_none 0 (widths_of s) args 1 l1 j);
          value = λ r. ap (λ (b : Bits). b.number) (means r i h) ∙ (λ j. number_by r (e j) (arg_none none (meanings s r) args 0 l0 j).width (arg_none none (meanings s r) args 1 l1 j).width (arg_none none (meanings s r) args 0 l0 j).number (arg_none none (meanings s r) args 1 l1 j).number (arg_none none (meanings s r) args 2 l2 j).number);
        }

    pub one_arg : arity op ≡ 1 → Alone s i op
    one_arg a =
        let n : length args ≡ 1 = many ∙ a in
        let l0 : 0 < length args = omega (arith, n) in
        let l1 : length args ≤ 1 = omega (arith, n) in
        let l2 : length args ≤ 2 = omega (arith, n) in
        record {
          many = n;
          first = child_below i 0 h l0;
          fits = subst (λ o. WidthsFit s.inputs o (width_at s (child s i 0)) 0 0) e (subst (λ w. WidthsFit s.inputs (term_at s i).op (width_at s (child s i 0)) 0 w) (arg_none 0 (widths_of s) args 2 l2) (subst (λ w. WidthsFit s.inputs (term_at s i).op (width_at s (child s i 0)) w (arg_at 0 (widths_of s) args 2)) (arg_none 0 (widths_of s) args 1 l1) (subst (λ w. WidthsFit s.inputs (term_at s i).op w (arg_at 0 (widths_of s) args 1) (arg_at 0 (widths_of s) args 2)) (wide_arg 0 l0) (fits i h).widths_fit)));
          wide = width_means i h ∙ (λ j. width_by s.inputs (e j) (wide_arg 0 l0 j) (arg_none 0 (widths_of s) args 1 l1 j));
          charge = λ j. bound (e j) (wide_arg 0 l0 j) (arg_none 0 (widths_of s) args 1 l1 j);
          value = λ r. ap (λ (b : Bits). b.number) (means r i h) ∙ ((λ j. number_by r (e j) (mean_arg r 0 l0 j).width (arg_none none (meanings s r) args 1 l1 j).width (mean_arg r 0 l0 j).number (arg_none none (meanings s r) args 1 l1 j).number (arg_none none (meanings s r) args 2 l2 j).number) ∙ ap (λ w. number_by r op w 0 (number_at s r (child s i 0)) 0 0) (wide_same r (child s i 0)));
        }

    pub three_args : op ≡ Ite → Triple s i
    three_args o =
        let n : length args ≡ 3 = many ∙ ap arity o in
        let l0 : 0 < length args = omega (arith, n) in
        let l1 : 1 < length args = omega (arith, n) in
        let l2 : 2 < length args = omega (arith, n) in
        let k = e ∙ o in
        let f : (width_at s (child s i 0) ≡ 1) × (width_at s (child s i 1) ≡ width_at s (child s i 2)) = subst (λ o. WidthsFit s.inputs o (width_at s (child s i 0)) (width_at s (child s i 1)) (width_at s (child s i 2))) k (subst (λ w. WidthsFit s.inputs (term_at s i).op (width_at s (child s i 0)) (width_at s (child s i 1)) w) (wide_arg 2 l2) (subst (λ w. WidthsFit s.inputs (term_at s i).op (width_at s (child s i 0)) w (arg_at 0 (widths_of s) args 2)) (wide_arg 1 l1) (subst (λ w. WidthsFit s.inputs (term_at s i).op w (arg_at 0 (widths_of s) args 1) (arg_at 0 (widths_of s) args 2)) (wide_arg 0 l0) (fits i h).widths_fit))) in
        record {
          first = child_below i 0 h l0;
          second = child_below i 1 h l1;
          third = child_below i 2 h l2;
          one = f.0;
          alike = f.1;
          wide = width_means i h ∙ (λ j. width_by s.inputs (k j) (wide_arg 0 l0 j) (wide_arg 1 l1 j));
          charge = λ j. bound (k j) ((wide_arg 0 l0 ∙ f.0) j) (wide_arg 1 l1 j);
          value = λ r. ap (λ (b : Bits). b.number) (means r i h) ∙ (λ j. number_by r (k j) (mean_arg r 0 l0 j).width (mean_arg r 1 l1 j).width (mean_arg r 0 l0 j).number (mean_arg r 1 l1 j).number (mean_arg r 2 l2 j).number);
        }

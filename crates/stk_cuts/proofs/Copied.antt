-- Copies of terms: how they are made, and what stays of them.
use Rattle.std.proofs.Common.{◌≡◌, ℕ, ◌<◌, ◌≤◌, List, [], ◌∷◌, ◌++◌, length, get_or, refl, sym, subst, ◌∙◌, arith, nat_eq, if◌then◌else◌}
use Rattle.std.proofs.lemmas.List.{get_or-map}
use Rattle.std.proofs.lemmas.List.Elements.{All-push, All-weaker}
use Rattle.stk_terms.specs.declared.term.TermId.{TermId}
use Rattle.stk_terms.specs.declared.term.TermOp.{TermOp}
use Rattle.stk_terms.specs.declared.term.TermOp.TheVariants.{Constant, Input}
use Rattle.stk_terms.specs.Terms.{Stored, term_at, child}
use Rattle.stk_terms.specs.Fitting.{IsSound, WidthsFit, AreResidues, AreWidths, arity}
use Rattle.stk_terms.specs.Growth.{Keeps}
use Rattle.stk_terms.specs.Values.{width_by, number_by, width_at, number_at}
use Rattle.stk_rewrite.specs.declared.right.Right.TheVariants.{Number, One, Two, Chosen}
use Rattle.stk_rewrite.specs.Rights.{IsBuilt}
use Rattle.stk_goal_clauses.specs.Laws.{IsNever}
use Rattle.stk_terms.proofs.Reading.{below, fits, no_args, one_arg, two_args, three_args}
use Rattle.stk_terms.proofs.Older.{number_kept}
use Rattle.stk_rewrite.proofs.Standing.{is_ite}
use Rattle.stk_cuts.specs.declared.copying.Moved.{Moved}
use Rattle.stk_cuts.specs.Cuts.{sizes_of, numbers_of, Copies, AreCopies}

-- operators with arguments don't read the inputs
same_number : (op : TermOp) (r q : List ℕ) (w0 w1 x y z : ℕ) → (arity op ≡ 0 → ⊥) → number_by r op w0 w1 x y z ≡ number_by q op w0 w1 x y z
same_number (Constant w n) r q w0 w1 x y z a = refl
same_number (Input k) r q w0 w1 x y z a = absurd (a refl)
same_number _ r q w0 w1 x y z a = refl

same_width : (op : TermOp) (r q : List ℕ) (w0 w1 : ℕ) → (arity op ≡ 0 → ⊥) → width_by r op w0 w1 ≡ width_by q op w0 w1
same_width (Constant w n) r q w0 w1 a = refl
same_width (Input k) r q w0 w1 a = absurd (a refl)
same_width _ r q w0 w1 a = refl

same_fit : (op : TermOp) (r q : List ℕ) (w0 w1 w2 : ℕ) → (arity op ≡ 0 → ⊥) → WidthsFit r op w0 w1 w2 → WidthsFit q op w0 w1 w2
same_fit (Constant w n) r q w0 w1 w2 a f = f
same_fit (Input k) r q w0 w1 w2 a f = absurd (a refl)
same_fit _ r q w0 w1 w2 a f = f

pub residues_fit : (s : Stored) → IsSound s → (r : List ℕ) → AreResidues s.inputs r → (cut : List TermId) → AreResidues (sizes_of s cut) (numbers_of s r cut)
residues_fit s sound r h [] = tt
residues_fit s sound r h (c ∷ cut) = (below s sound r c.0 h, residues_fit s sound r h cut)

module _ (old : Stored) (cut : List TermId) (sound : IsSound old) (new : Stored) (same : new.inputs ≡ sizes_of old cut) where
  fit : (r : List ℕ) → AreResidues old.inputs r → AreResidues new.inputs (numbers_of old r cut)
  fit r h = subst (λ ws. AreResidues ws (numbers_of old r cut)) (sym same) (residues_fit old sound r h cut)

  -- what decides a copy decides what it is of
  pub never_kept : (i v : ℕ) → Copies old cut new i v → IsNever new v → IsNever old i
  never_kept i v c never = λ r h one. never (numbers_of old r cut) (fit r h) (c.value r h ∙ one)

  module _ (i : ℕ) (h : i < length old.terms) where
    pub arity_at : (n : ℕ) → length (term_at old i).args ≡ n → arity (term_at old i).op ≡ n
    arity_at n e = sym (fits old sound i h).arity_is ∙ e

    module _ (op : TermOp) (e : (term_at old i).op ≡ op) where
      pub fits_one : (a : ℕ) → arity op ≡ 1 → Copies old cut new (child old i 0) a → WidthsFit new.inputs op (width_at new a) 0 0
      fits_one a n x = same_fit op old.inputs new.inputs (width_at new a) 0 0 (λ z. omega (arith, n, z)) (subst (λ w. WidthsFit old.inputs op w 0 0) (sym x.wide) (one_arg old sound i h op e n).fits)

      pub fits_two : (a b : ℕ) → arity op ≡ 2 → Copies old cut new (child old i 0) a → Copies old cut new (child old i 1) b → WidthsFit new.inputs op (width_at new a) (width_at new b) 0
      fits_two a b n x y = same_fit op old.inputs new.inputs (width_at new a) (width_at new b) 0 (λ z. omega (arith, n, z)) (subst (λ w. WidthsFit old.inputs op w (width_at new b) 0) (sym x.wide) (subst (λ w. WidthsFit old.inputs op (width_at old (child old i 0)) w 0) (sym y.wide) (two_args old sound i h op e n).fits))

      pub copy_one : (later : Stored) (a : TermId) (v : ℕ) → arity op ≡ 1 → Copies old cut new (child old i 0) a.0 → IsBuilt new later (One op a) v → Copies old cut later i v
      copy_one later a v n x b =
          let q = one_arg old sound i h op e n in
          record {
            exists_ = b.normal.exists_;
            wide = b.wide ∙ (same_width op new.inputs old.inputs (width_at new a.0) 0 (λ z. omega (arith, n, z)) ∙ ((λ j. width_by old.inputs op (x.wide j) 0) ∙ sym q.wide));
            value = λ r l. b.value (numbers_of old r cut) (fit r l) ∙ (same_number op (numbers_of old r cut) r (width_at new a.0) 0 (number_at new (numbers_of old r cut) a.0) 0 0 (λ z. omega (arith, n, z)) ∙ ((λ j. number_by r op (x.wide j) 0 (x.value r l j) 0 0) ∙ sym (q.value r)));
          }

      pub copy_two : (later : Stored) (a b : TermId) (v : ℕ) → arity op ≡ 2 → Copies old cut new (child old i 0) a.0 → Copies old cut new (child old i 1) b.0 → IsBuilt new later (Two op a b) v → Copies old cut later i v
      copy_two later a b v n x y u =
          let q = two_args old sound i h op e n in
          record {
            exists_ = u.normal.exists_;
            wide = u.wide ∙ (same_width op new.inputs old.inputs (width_at new a.0) (width_at new b.0) (λ z. omega (arith, n, z)) ∙ ((λ j. width_by old.inputs op (x.wide j) (y.wide j)) ∙ sym q.wide));
            value = λ r l. u.value (numbers_of old r cut) (fit r l) ∙ (same_number op (numbers_of old r cut) r (width_at new a.0) (width_at new b.0) (number_at new (numbers_of old r cut) a.0) (number_at new (numbers_of old r cut) b.0) 0 (λ z. omega (arith, n, z)) ∙ ((λ j. number_by r op (x.wide j) (y.wide j) (x.value r l j) (y.value r l j) 0) ∙ sym (q.value r)));
          }

    pub copy_constant : (later : Stored) (w k v : ℕ) → (term_at old i).op ≡ Constant w k → IsBuilt new later (Number w k) v → Copies old cut later i v
    copy_constant later w k v e b =
        let q = no_args old sound i h (Constant w k) e refl in
        record {
          exists_ = b.normal.exists_;
          wide = b.wide ∙ sym q.wide;
          value = λ r l. b.value (numbers_of old r cut) (fit r l) ∙ sym (q.value r);
        }

    pub constant_fits : (w k : ℕ) → (term_at old i).op ≡ Constant w k → WidthsFit old.inputs (Constant w k) 0 0 0
    constant_fits w k e = (no_args old sound i h (Constant w k) e refl).fits

    module _ (n : length (term_at old i).args ≡ 3) (t a b : TermId) (z : Copies old cut new (child old i 0) t.0) (x : Copies old cut new (child old i 1) a.0) (y : Copies old cut new (child old i 2) b.0) where
      pub one_at : width_at new t.0 ≡ 1
      one_at = z.wide ∙ (three_args old sound i h (term_at old i).op refl (is_ite _ (arity_at 3 n))).one

      pub alike_at : width_at new a.0 ≡ width_at new b.0
      alike_at = x.wide ∙ ((three_args old sound i h (term_at old i).op refl (is_ite _ (arity_at 3 n))).alike ∙ sym y.wide)

      pub copy_chosen : (later : Stored) (v : ℕ) → IsBuilt new later (Chosen t a b) v → Copies old cut later i v
      copy_chosen later v u =
          let q = three_args old sound i h (term_at old i).op refl (is_ite _ (arity_at 3 n)) in
          record {
            exists_ = u.normal.exists_;
            wide = u.wide ∙ (x.wide ∙ sym q.wide);
            value = λ r l. u.value (numbers_of old r cut) (fit r l) ∙ ((λ j. if nat_eq (z.value r l j) 1 then x.value r l j else y.value r l j) ∙ sym (q.value r));
          }

-- an input stands for its cut term
pub copy_input : (old new : Stored) (cut : List TermId) (k v : ℕ) (d : TermId) → k < length cut → v < length new.terms → width_at new v ≡ get_or (sizes_of old cut) k 0 → ((r : List ℕ) → number_at new r v ≡ get_or r k 0) → Copies old cut new (get_or cut k d).0 v
copy_input old new cut k v d l there wide value = record {
  exists_ = there;
  wide = wide ∙ get_or-map (λ i. width_at old i.0) cut k d 0 l;
  value = λ r h. value (numbers_of old r cut) ∙ get_or-map (λ i. number_at old r i.0) cut k d 0 l;
}

-- copies stay where the store grows
pub copy_later : (old : Stored) (cut : List TermId) (new later : Stored) → IsSound new → Keeps new later → (i v : ℕ) → Copies old cut new i v → Copies old cut later i v
copy_later old cut new later sound k i v c = record {
  exists_ = (let a = c.exists_ in let b = k.longer in omega (arith, a, b));
  wide = k.wide v c.exists_ ∙ c.wide;
  value = λ r h. number_kept new later sound k (numbers_of old r cut) v c.exists_ ∙ c.value r h;
}

pub copies_later : (old : Stored) (cut : List TermId) (new later : Stored) → IsSound new → Keeps new later → (ms : List Moved) → AreCopies old cut new ms → AreCopies old cut later ms
copies_later old cut new later sound k ms all = All-weaker (λ (m : Moved). Copies old cut new m.from.0 m.to.0) (λ (m : Moved). Copies old cut later m.from.0 m.to.0) (λ m c. copy_later old cut new later sound k m.from.0 m.to.0 c) ms all

-- one copy more
pub copies_more : (old : Stored) (cut : List TermId) (new later : Stored) → IsSound new → Keeps new later → (ms : List Moved) (m : Moved) → AreCopies old cut new ms → Copies old cut later m.from.0 m.to.0 → AreCopies old cut later (ms ++ m ∷ [])
copies_more old cut new later sound k ms m all c = All-push (λ m. Copies old cut later m.from.0 m.to.0) ms m (copies_later old cut new later sound k ms all) c

pub widths_more : (ws : List ℕ) (w : ℕ) → AreWidths ws → 1 ≤ w → w ≤ 64 → AreWidths (ws ++ w ∷ [])
widths_more [] w h a b = (a, b, tt)
widths_more (v ∷ ws) w h a b = (h.0, h.1, widths_more ws w h.2 a b)

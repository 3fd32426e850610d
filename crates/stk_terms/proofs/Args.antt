-- The arguments of a term, found by their place.
use Rattle.std.proofs.Common.{◌≡◌, ℕ, zero, suc, ◌+◌, ◌<◌, ◌≤◌, List, [], ◌∷◌, ◌++◌, length, get_or, refl, sym, subst, ◌∙◌, arith, length-append, append_assoc}
use Rattle.std.proofs.lemmas.List.{get_or-map}
use Rattle.std.proofs.lemmas.Option.{none-some}
use Rattle.stk_terms.specs.declared.term.TermId.{TermId}
use Rattle.stk_terms.specs.declared.term.TermNode.{TermNode}
use Rattle.stk_terms.specs.Terms.{Term, StandsAt}
use Rattle.stk_terms.specs.Keys.{sizes_of}
use Rattle.stk_terms.specs.Values.{arg_at, evaluated, width_of}
use Rattle.stk_terms.specs.Fitting.{AreBelow, AreBehind, Fits, FitBehind}
use Rattle.stk_terms.proofs.Growing.{front, arg_front}
use Rattle.stk_terms.proofs.Sharing.{some_one}

pub arg_within : {A : Type 0} (d : A) (done : List A) (args : List TermId) (k : ℕ) (e : TermId) → k < length args → arg_at d done args k ≡ get_or done (get_or args k e).0 d
arg_within d done [] k e h = absurd (omega arith)
arg_within d done (a ∷ args) zero e h = refl
arg_within d done (a ∷ args) (suc k) e h = arg_within d done args k e (omega arith)

pub arg_beyond : {A : Type 0} (d : A) (done : List A) (args : List TermId) (k : ℕ) → length args ≤ k → arg_at d done args k ≡ d
arg_beyond d done [] k h = refl
arg_beyond d done (a ∷ args) zero h = absurd (omega arith)
arg_beyond d done (a ∷ args) (suc k) h = arg_beyond d done args k (omega arith)

pub arg_exists : (n : ℕ) (args : List TermId) (k : ℕ) (e : TermId) → AreBelow n args → k < length args → (get_or args k e).0 < n
arg_exists n [] k e b h = absurd (omega arith)
arg_exists n (a ∷ args) zero e b h = b.0
arg_exists n (a ∷ args) (suc k) e b h = arg_exists n args k e b.1 (omega arith)

pub size_within : (ns : List TermNode) (args : List TermId) (k : ℕ) (e : TermId) (m : TermNode) → AreBelow (length ns) args → k < length args → (get_or ns (get_or args k e).0 m).width ≡ arg_at 0 (sizes_of ns) args k
size_within ns args k e m b h = sym (arg_within 0 (sizes_of ns) args k e h ∙ get_or-map (λ n. n.width) ns (get_or args k e).0 m 0 (arg_exists (length ns) args k e b h))

pub wider : (n m : ℕ) (args : List TermId) → n ≤ m → AreBelow n args → AreBelow m args
wider n m [] h b = tt
wider n m (a ∷ args) h b = (omega (arith, b.0), wider n m args h b.1)

pub below_at : (n : ℕ) (ts : List Term) (i : ℕ) (t : Term) → AreBehind n ts → StandsAt ts i t → AreBelow (n + i) t.args
below_at n [] i t b h = absurd (none-some _ h)
below_at n (s ∷ ts) zero t b h = wider n (n + 0) t.args (omega arith) (subst (λ u. AreBelow n u.args) (some_one h) b.0)
below_at n (s ∷ ts) (suc i) t b h = wider ((n + 1) + i) (n + suc i) t.args (omega arith) (below_at (n + 1) ts i t b.1 h)

pub fits_front : (inputs ws more : List ℕ) (t : Term) → Fits inputs ws t → Fits inputs (ws ++ more) t
fits_front inputs ws more t f =
    record {
      arity_is = f.arity_is;
      exist = wider (length ws) (length (ws ++ more)) t.args (omega (arith, length-append ws more)) f.exist;
      widths_fit = rw (arg_front 0 ws more t.args 0 f.exist, arg_front 0 ws more t.args 1 f.exist, arg_front 0 ws more t.args 2 f.exist) f.widths_fit;
    }

-- a term that stands among terms that fit, fits
pub fits_at : (inputs ws : List ℕ) (ts : List Term) (i : ℕ) (t : Term) → FitBehind inputs ws ts → StandsAt ts i t → Fits inputs (evaluated (width_of inputs) ws ts) t
fits_at inputs ws [] i t f h = absurd (none-some _ h)
fits_at inputs ws (s ∷ ts) zero t f h =
    let w = width_of inputs ws s in
    let r = front (width_of inputs) (ws ++ w ∷ []) ts in
    let e : evaluated (width_of inputs) (ws ++ w ∷ []) ts ≡ ws ++ w ∷ r.0 = r.1 ∙ append_assoc ws (w ∷ []) r.0 in
    subst (λ l. Fits inputs l t) (sym e) (fits_front inputs ws (w ∷ r.0) t (subst (λ u. Fits inputs ws u) (some_one h) f.0))
fits_at inputs ws (s ∷ ts) (suc i) t f h = fits_at inputs (ws ++ width_of inputs ws s ∷ []) ts i t f.1 h

-- one more term that fits
pub fit_push : (inputs ws : List ℕ) (ts : List Term) (t : Term) → FitBehind inputs ws ts → Fits inputs (evaluated (width_of inputs) ws ts) t → FitBehind inputs ws (ts ++ t ∷ [])
fit_push inputs ws [] t f h = (h, tt)
fit_push inputs ws (s ∷ ts) t f h = (f.0, fit_push inputs (ws ++ width_of inputs ws s ∷ []) ts t f.1 h)

-- What the terms of an earlier store weigh in a later one.
use Rattle.std.proofs.Common.{◌≡◌, ℕ, zero, suc, ◌+◌, ◌<◌, ◌≤◌, Bool, true, List, [], ◌∷◌, ◌++◌, length, get_or, nat_lt, refl, sym, ap, subst, ◌∙◌, arith, length-append}
use Rattle.std.proofs.Math.Nat.{zero-add}
use Rattle.stk_terms.specs.Terms.{Stored, Term, term_at, term_of}
use Rattle.stk_terms.specs.declared.term.TermId.{TermId}
use Rattle.stk_terms.specs.declared.term.TermOp.TheVariants.{Constant}
use Rattle.stk_terms.specs.Fitting.{IsSound, AreBelow, AreBehind}
use Rattle.stk_terms.specs.Growth.{Keeps}
use Rattle.stk_terms.specs.Values.{width_of, widths_of, evaluated}
use Rattle.stk_terms.specs.Cost.{bound, bound_of, bound_at, weight, costs, total_cost, IsClosed}
use Rattle.stk_terms.proofs.Growing.{front, arg_front, behind}
use Rattle.stk_terms.proofs.Weighing.{only_closed, all_weighs}
use Rattle.stk_symbols.specs.Earlier.{among, EarlierTerms, EarlierTermsAreClosed}

abbrev every : ℕ → Bool
every i = true

module _ (s : Stored) where
  bound_here : (n : ℕ) (ws : List ℕ) (t : Term) (ts : List Term) → length ws ≡ n → widths_of s ≡ evaluated (width_of s.inputs) ws (t ∷ ts) → term_at s n ≡ t → AreBelow n t.args → bound_at s n ≡ bound_of ws t
  bound_here n ws t ts e w f b =
      let g = front (width_of s.inputs) ws (t ∷ ts) in
      let below : AreBelow (length ws) t.args = subst (λ k. AreBelow k t.args) (sym e) b in
      (λ j. bound_of ((w ∙ g.1) j) (f j)) ∙ (λ j. bound t.op (arg_front 0 ws g.0 t.args 0 below j) (arg_front 0 ws g.0 t.args 1 below j))

  -- the bounds from a place on
  sum_from : (n : ℕ) (ws : List ℕ) (ts : List Term) → length ws ≡ n → widths_of s ≡ evaluated (width_of s.inputs) ws ts → ((i : ℕ) → i < length ts → term_at s (n + i) ≡ get_or ts i (term_of (Constant 0 0) [])) → AreBehind n ts → weight s every (n + length ts) ≡ weight s every n + costs s.inputs ws ts
  sum_from n ws [] e w f b =
      let h : n + 0 ≡ n = omega arith in
      ap (weight s every) h ∙ omega arith
  sum_from n ws (t ∷ ts) e w f b =
      let h : n + 0 ≡ n = omega arith in
      let k : n + 1 ≡ suc n = omega arith in
      let v = width_of s.inputs ws t in
      let l : length (ws ++ v ∷ []) ≡ suc n = length-append ws (v ∷ []) ∙ omega (arith, e) in
      let here : term_at s n ≡ t = ap (term_at s) (sym h) ∙ f 0 (omega arith) in
      let ih = sum_from (suc n) (ws ++ v ∷ []) ts l w (λ i m. later i m) (subst (λ j. AreBehind j ts) k b.1) in
      let c = bound_here n ws t ts e w here b.0 in
      let q : n + length (t ∷ ts) ≡ suc n + length ts = omega arith in
      ap (weight s every) q ∙ (ih ∙ omega (arith, c))
    where
      later : (i : ℕ) → i < length ts → term_at s (suc n + i) ≡ get_or ts i (term_of (Constant 0 0) [])
      later i m = let q : suc n + i ≡ n + suc i = omega arith in ap (term_at s) q ∙ f (suc i) (omega (arith, m))

  -- all terms weigh what the store costs
  pub all_cost : IsSound s → weight s every (length s.terms) ≡ total_cost s
  all_cost sound =
      let e : weight s every (0 + length s.terms) ≡ weight s every 0 + costs s.inputs [] s.terms = sum_from 0 [] s.terms refl refl (λ i h. ap (term_at s) (zero-add i)) (behind s.inputs [] s.terms sound.fit) in
      let h : 0 + length s.terms ≡ length s.terms = zero-add (length s.terms) in
      sym (ap (weight s every) h) ∙ (e ∙ zero-add (total_cost s))

every_closed : (s : Stored) → IsClosed s every
every_closed s = record { closed = λ i k h l. refl }

pub earlier : EarlierTermsAreClosed
earlier = λ first now sound keeps.
    let w = all_weighs first now sound keeps every (every_closed first) in
    let e = all_cost first sound in
    record { closed = only_closed first now sound keeps every (every_closed first); weighs = omega (arith, w, e) }

pub below_true : (m n : ℕ) → m < n → nat_lt m n ≡ true
below_true m n h = grind arith

-- What a store has at the place of a term that was made.
use Rattle.std.proofs.Common.{◌≡◌, ℕ, zero, suc, ◌<◌, List, [], ◌∷◌, length, get_or, Some, refl, ap, ◌∙◌, arith}
use Rattle.stk_terms.specs.declared.term.TermOp.{TermOp}
use Rattle.stk_terms.specs.declared.term.TermOp.TheVariants.{Ite}
use Rattle.stk_terms.specs.declared.term.TermId.{TermId}
use Rattle.stk_terms.specs.Terms.{Term, Stored, StandsAt, term_of, nth, child}
use Rattle.stk_terms.specs.Fitting.{IsSound, arity}
use Rattle.stk_terms.specs.Values.{width_at, number_at, width_by, number_by}
use Rattle.stk_terms.proofs.Reading.{two_args, one_arg, no_args, three_args}
use Rattle.stk_script_reader.specs.Made.{IsLeaf, IsOne, IsTwo, IsChoice}

some_is : {A : Type 0} (x y : A) → Some x ≡ Some y → x ≡ y
some_is x y e = cc

stands_in : (ts : List Term) (j : ℕ) (t : Term) → StandsAt ts j t → j < length ts
stands_in [] j t e = absurd cc
stands_in (u ∷ ts) zero t e = omega arith
stands_in (u ∷ ts) (suc j) t e = let k = stands_in ts j t e in omega (arith, k)

stands_is : (ts : List Term) (j : ℕ) (t d : Term) → StandsAt ts j t → get_or ts j d ≡ t
stands_is [] j t d e = absurd cc
stands_is (u ∷ ts) zero t d e = some_is u t e
stands_is (u ∷ ts) (suc j) t d e = stands_is ts j t d e

module _ (s : Stored) (sound : IsSound s) (j : ℕ) where
  pub leaf_made : (op : TermOp) → StandsAt s.terms j (term_of op []) → arity op ≡ 0 → IsLeaf s op j
  leaf_made op e a =
      let h = stands_in s.terms j (term_of op []) e in
      let k = stands_is s.terms j (term_of op []) _ e in
      let l = no_args s sound j h op (ap (λ (t : Term). t.op) k) a in
      record { there = h; wide = l.wide; value = l.value }

  pub one_made : (op : TermOp) (a : TermId) → StandsAt s.terms j (term_of op (a ∷ [])) → arity op ≡ 1 → IsOne s op a.0 j
  one_made op a e n =
      let h = stands_in s.terms j (term_of op (a ∷ [])) e in
      let k = stands_is s.terms j (term_of op (a ∷ [])) _ e in
      let l = one_arg s sound j h op (ap (λ (t : Term). t.op) k) n in
      let c : child s j 0 ≡ a.0 = ap (λ (t : Term). nth t.args 0) k in
      record {
        there = h;
        wide = l.wide ∙ ap (λ i. width_by s.inputs op (width_at s i) 0) c;
        value = λ r. l.value r ∙ ap (λ i. number_by r op (width_at s i) 0 (number_at s r i) 0 0) c;
      }

  pub two_made : (op : TermOp) (a b : TermId) → StandsAt s.terms j (term_of op (a ∷ b ∷ [])) → arity op ≡ 2 → IsTwo s op a.0 b.0 j
  two_made op a b e n =
      let h = stands_in s.terms j (term_of op (a ∷ b ∷ [])) e in
      let k = stands_is s.terms j (term_of op (a ∷ b ∷ [])) _ e in
      let l = two_args s sound j h op (ap (λ (t : Term). t.op) k) n in
      let c : child s j 0 ≡ a.0 = ap (λ (t : Term). nth t.args 0) k in
      let d : child s j 1 ≡ b.0 = ap (λ (t : Term). nth t.args 1) k in
      record {
        there = h;
        wide = l.wide ∙ (λ i. width_by s.inputs op (width_at s (c i)) (width_at s (d i)));
        value = λ r. l.value r ∙ (λ i. number_by r op (width_at s (c i)) (width_at s (d i)) (number_at s r (c i)) (number_at s r (d i)) 0);
      }

  pub choice_made : (t a b : TermId) → StandsAt s.terms j (term_of Ite (t ∷ a ∷ b ∷ [])) → IsChoice s t.0 a.0 b.0 j
  choice_made t a b e =
      let h = stands_in s.terms j (term_of Ite (t ∷ a ∷ b ∷ [])) e in
      let k = stands_is s.terms j (term_of Ite (t ∷ a ∷ b ∷ [])) _ e in
      let l = three_args s sound j h Ite (ap (λ (t : Term). t.op) k) refl in
      let c : child s j 0 ≡ t.0 = ap (λ (t : Term). nth t.args 0) k in
      let d : child s j 1 ≡ a.0 = ap (λ (t : Term). nth t.args 1) k in
      let f : child s j 2 ≡ b.0 = ap (λ (t : Term). nth t.args 2) k in
      record {
        there = h;
        wide = l.wide ∙ ap (width_at s) d;
        value = λ r. l.value r ∙ (λ i. number_by r Ite 1 1 (number_at s r (c i)) (number_at s r (d i)) (number_at s r (f i)));
      }

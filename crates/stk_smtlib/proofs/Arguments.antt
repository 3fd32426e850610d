-- The arguments of a term stand in the store.
use Rattle.std.proofs.Common.{ℕ, zero, suc, ◌<◌, List, [], ◌∷◌, length, subst, arith}
use Rattle.stk_terms.specs.declared.term.TermId.{TermId}
use Rattle.stk_terms.specs.Terms.{Stored, term_at, nth}
use Rattle.stk_terms.specs.Fitting.{IsSound, AreBelow}
use Rattle.stk_terms.proofs.Reading.{fits, count}

nth_in : (n : ℕ) (args : List TermId) (k : ℕ) → 0 < n → AreBelow n args → nth args k < n
nth_in n [] k some h = some
nth_in n (a ∷ args) zero some h = h.0
nth_in n (a ∷ args) (suc k) some h = nth_in n args k some h.1

pub argument_there : (s : Stored) → IsSound s → (i : ℕ) → i < length s.terms → (k : ℕ) → nth (term_at s i).args k < length s.terms
argument_there s sound i below k = nth_in (length s.terms) (term_at s i).args k (omega (arith, below)) (subst (λ n. AreBelow n (term_at s i).args) (count s sound) (fits s sound i below).exist)

-- What stands for terms costs no more than they.
use Rattle.std.specs.Prelude.{◌≡◌, ℕ, ◌<◌, ◌≤◌, Bool, true, List, length, get_or}
use Rattle.stk_terms.specs.declared.term.TermId.{TermId}
use Rattle.stk_terms.specs.Terms.{Stored, term_at, child}
use Rattle.stk_terms.specs.Cost.{IsClosed, weight}

-- what stands for the arguments of a term is chosen
abbrev pub HasChildren : (ℕ → Bool) → Stored → List TermId → ℕ → Type 0
HasChildren chosen s done i = (k : ℕ) (e : TermId) → k < length (term_at s i).args → chosen (get_or done (child s i k) e).0 ≡ true

-- some closed choice in s has what stands for the chosen ones of the first terms, and weighs no more than they
pub record Carries (first s : Stored) (q : ℕ → Bool) (done : List TermId) : Type 0 where
  pub chosen : ℕ → Bool
  pub closed : IsClosed s chosen
  pub has : (k : ℕ) (e : TermId) → k < length done → q k ≡ true → chosen (get_or done k e).0 ≡ true
  pub within : weight s chosen (length s.terms) ≤ weight first q (length done)

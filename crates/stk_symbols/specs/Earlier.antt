-- The terms of an earlier store, in a later one.
use Rattle.std.specs.Prelude.{ℕ, ◌≤◌, Bool, length, nat_lt}
use Rattle.stk_terms.specs.Terms.{Stored}
use Rattle.stk_terms.specs.Fitting.{IsSound}
use Rattle.stk_terms.specs.Growth.{Keeps}
use Rattle.stk_terms.specs.Cost.{weight, total_cost, IsClosed}

-- whether the term at a place was there
abbrev pub among : Stored → ℕ → Bool
among first i = nat_lt i (length first.terms)

-- the arguments of terms that were there were there, and together they weigh no more than the store cost
pub record EarlierTerms (first now : Stored) : Type 0 where
  pub closed : IsClosed now (among first)
  pub weighs : weight now (among first) (length now.terms) ≤ total_cost first

abbrev pub EarlierTermsAreClosed : Type 0
EarlierTermsAreClosed = (first now : Stored) → IsSound first → Keeps first now → EarlierTerms first now

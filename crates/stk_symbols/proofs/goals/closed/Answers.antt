use Rattle.std.proofs.Common.{false, sym, ap, subst, ◌∙◌}
use Rattle.stk_terms.specs.Values.{bit}
use Rattle.stk_symbols.specs.Goals.{MaybeIs}
use Rattle.stk_symbols.proofs.Made.{obeys_before as B}
use Rattle.stk_symbols.proofs.Stepping.{and_none}
use Rattle.stk_symbols.proofs.goals.closed.Goals as goal

pub returns-in_ok-v-in-None-clause-value : goal.returns-in_ok-v-in-None-clause-value
returns-in_ok-v-in-None-clause-value c = λ numbers x y o e f. c.in_ok-v-in-None.ensures.value numbers o ∙ sym (ap bit (and_none x y (subst (λ l. MaybeIs numbers false l y) c.in-None.is f)))

pub returns-in_ok-v-in-Some-clause-value : goal.returns-in_ok-v-in-Some-clause-value
returns-in_ok-v-in-Some-clause-value c = λ numbers x y o e f. c.in_ok-v-in-Some.ensures.value numbers x y o (c.in_ok-t-in-Some.ensures.value numbers x (B _ _ _ numbers c.in_ok-v-in-Some.ensures.grown o) e) (subst (λ l. MaybeIs numbers false l y) c.in-Some.is f)

use Rattle.std.proofs.Common.{true, subst}
use Rattle.stk_symbols.specs.Goals.{MaybeIs}
use Rattle.stk_symbols.proofs.goals.both_set.Goals as goal

pub returns-in_ok-v-in-Some-clause-value : goal.returns-in_ok-v-in-Some-clause-value
returns-in_ok-v-in-Some-clause-value c = λ numbers x y o e f. c.in_ok-v-in-Some.ensures.value numbers x y o (subst (λ l. MaybeIs numbers true l x) c.in-Some.is e) f

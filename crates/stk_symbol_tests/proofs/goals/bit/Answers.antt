use Rattle.stk_symbol_tests.proofs.Chained.{keeps_then}
use Rattle.stk_symbol_tests.proofs.goals.bit.Goals as goal

pub returns-in_err-v-clause-keeps : goal.returns-in_err-v-clause-keeps
returns-in_err-v-clause-keeps c = keeps_then _ _ _ c.in_ok-x.ensures.keeps c.in_err-v.ensures.keeps

pub returns-clause-keeps : goal.returns-clause-keeps
returns-clause-keeps c = keeps_then _ _ _ c.in_ok-x.ensures.keeps c.in_ok-v.ensures.keeps

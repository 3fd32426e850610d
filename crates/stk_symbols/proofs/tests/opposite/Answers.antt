use Rattle.std.proofs.Common.{◌∙◌}
use Rattle.stk_symbols.proofs.Made.{obeys_before as B}
use Rattle.stk_symbols.proofs.tests.opposite.Goals as goal

pub returns-clause-value : goal.returns-clause-value
returns-clause-value c = λ numbers x o e.
    let o2 = B _ _ _ numbers c.in_ok-v.ensures.grown o in
    let o1 = B _ _ _ numbers c.in_ok-b.ensures.grown o2 in
    c.in_ok-v.ensures.value numbers o ∙ c.in_ok-b.ensures.value numbers x o2 (c.in_ok-a.ensures.value numbers x o1 e)

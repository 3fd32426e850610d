use Rattle.std.proofs.Common.{◌∙◌}
use Rattle.stk_symbols.proofs.Made.{obeys_before as B}
use Rattle.stk_symbols.proofs.comparing.compare.Goals as goal

pub returns-clause-value : goal.returns-clause-value
returns-clause-value c = λ numbers o.
    let o1 = B _ _ _ numbers c.in_ok-v.ensures.grown o in
    c.in_ok-v.ensures.value numbers o ∙ c.in_ok-t.ensures.value numbers o1

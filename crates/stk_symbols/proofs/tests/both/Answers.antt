use Rattle.std.proofs.Common.{◌∙◌}
use Rattle.stk_symbols.proofs.Made.{obeys_before as B}
use Rattle.stk_symbols.proofs.tests.both.Goals as goal

pub returns-clause-value : goal.returns-clause-value
returns-clause-value c = λ numbers x y o e f.
    let o3 = B _ _ _ numbers c.in_ok-v.ensures.grown o in
    let o2 = B _ _ _ numbers c.in_ok-c.ensures.grown o3 in
    let o1 = B _ _ _ numbers c.in_ok-b.ensures.grown o2 in
    c.in_ok-v.ensures.value numbers o ∙ c.in_ok-c.ensures.value numbers x y o3 (c.in_ok-a.ensures.value numbers x o1 e) (c.in_ok-b.ensures.value numbers y o2 f)

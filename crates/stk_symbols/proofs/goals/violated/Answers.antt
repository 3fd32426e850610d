use Rattle.std.proofs.Common.{not}
use Rattle.stk_symbols.proofs.Made.{obeys_before as B}
use Rattle.stk_symbols.proofs.goals.violated.Goals as goal

pub returns-clause-value : goal.returns-clause-value
returns-clause-value c = λ numbers t b o s e.
    let o2 = B _ _ _ numbers c.in_ok-clear.ensures.grown o in
    let o1 = B _ _ _ numbers c.in_ok-not.ensures.grown o2 in
    record { clear = c.in_ok-clear.ensures.value numbers t.clear (not b) o s.clear (c.in_ok-not.ensures.value numbers b o2 (c.in_ok-bit.ensures.value numbers b o1 e)); found = s.found }

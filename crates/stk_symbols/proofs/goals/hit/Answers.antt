use Rattle.std.proofs.Common.{◌&&◌}
use Rattle.stk_symbols.proofs.Made.{obeys_before as B}
use Rattle.stk_symbols.proofs.goals.hit.Goals as goal

pub returns-clause-value : goal.returns-clause-value
returns-clause-value c = λ numbers t b o s e.
    let o2 = B _ _ _ numbers c.in_ok-found.ensures.grown o in
    let o1 = B _ _ _ numbers c.in_ok-free.ensures.grown o2 in
    record { clear = s.clear; found = c.in_ok-found.ensures.value numbers t.found (t.clear && b) o s.found (c.in_ok-free.ensures.value numbers t.clear b o2 s.clear (c.in_ok-bit.ensures.value numbers b o1 e)) }

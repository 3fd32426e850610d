use Rattle.std.proofs.Common.{◌∙◌, ◌%◌, not, nat_eq, if◌then◌else◌}
use Rattle.stk_symbols.proofs.Made.{obeys_before as B}
use Rattle.stk_symbols.specs.Standing.{is_plus, turned_bits}
use Rattle.stk_symbols.proofs.Magnitudes.{not_not}
use Rattle.stk_symbols.proofs.dividing.remainder.Goals as goal

pub returns-clause-value : goal.returns-clause-value
returns-clause-value c = λ numbers o.
    let w = c.args.width in
    let n = numbers c.args.left.0 in
    let o5 = B _ _ _ numbers c.in_ok-v.ensures.grown o in
    let o4 = B _ _ _ numbers c.in_ok-q.ensures.grown o5 in
    let o3 = B _ _ _ numbers c.in_ok-y.ensures.grown o4 in
    let o2 = B _ _ _ numbers c.in_ok-x.ensures.grown o3 in
    let o1 = B _ _ _ numbers c.in_ok-b.ensures.grown o2 in
    let a = c.in_ok-a.ensures.value numbers o1 in
    let b = c.in_ok-b.ensures.value numbers o2 in
    let x = c.in_ok-x.ensures.value numbers o3 a in
    let y = c.in_ok-y.ensures.value numbers o4 b in
    c.in_ok-v.ensures.value numbers (not (is_plus w n)) o a
    ∙ ((λ i. turned_bits w (not_not (is_plus w n) i) (c.in_ok-q.ensures.value numbers o5 i))
    ∙ (λ i. turned_bits w (is_plus w n) (if nat_eq (y i) 0 then x i else x i % y i)))

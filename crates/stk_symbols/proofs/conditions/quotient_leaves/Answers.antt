use Rattle.std.proofs.Common.{◌∙◌, ◌-◌, ◌^◌, ap, nat_eq}
use Rattle.stk_symbols.proofs.Made.{obeys_before as B}
use Rattle.stk_terms.specs.Values.{bit}
use Rattle.stk_symbols.proofs.conditions.quotient_leaves.Goals as goal

pub returns-clause-value : goal.returns-clause-value
returns-clause-value c = λ numbers o.
    let w = c.args.width in
    let n = numbers c.args.left.0 in
    let m = numbers c.args.right.0 in
    let o_b = B _ _ _ numbers c.in_ok-v.ensures.grown o in
    let o_a = B _ _ _ numbers c.in_ok-b.ensures.grown o_b in
    let o_minus = B _ _ _ numbers c.in_ok-a.ensures.grown o_a in
    let o_least = B _ _ _ numbers c.in_ok-minus.ensures.grown o_minus in
    let o_old = B _ _ _ numbers c.in_ok-least.ensures.grown o_least in
    let a = c.in_ok-a.ensures.value numbers o_a ∙ ap (λ u. bit (nat_eq n u)) (c.in_ok-least.ensures.value numbers o_least ∙ c.top.ensures.is) in
    let b = c.in_ok-b.ensures.value numbers o_b ∙ ap (λ u. bit (nat_eq m u)) (c.in_ok-minus.ensures.value numbers o_minus ∙ c.ones.ensures.is) in
    c.in_ok-v.ensures.value numbers (nat_eq n (2 ^ (w - 1))) (nat_eq m (2 ^ w - 1)) o a b

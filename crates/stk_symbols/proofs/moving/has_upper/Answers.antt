use Rattle.std.proofs.Common.{◌∙◌, ◌/◌, ◌%◌, ◌^◌, nat_eq}
use Rattle.stk_terms.specs.Values.{bit}
use Rattle.stk_symbols.proofs.Made.{obeys_before as B}
use Rattle.stk_symbols.proofs.moving.has_upper.Goals as goal

pub returns-clause-value : goal.returns-clause-value
returns-clause-value c = λ numbers o.
    let n = numbers c.args.value.0 / 2 ^ 64 % 2 ^ 32 in
    let o_t = B _ _ _ numbers c.in_ok-v.ensures.grown o in
    let o_zero = B _ _ _ numbers c.in_ok-t.ensures.grown o_t in
    let o_upper = B _ _ _ numbers c.in_ok-zero.ensures.grown o_zero in
    let upper = c.in_ok-upper.ensures.value numbers o_upper in
    let zero = c.in_ok-zero.ensures.value numbers o_zero in
    c.in_ok-v.ensures.value numbers (nat_eq n 0) o (c.in_ok-t.ensures.value numbers o_t ∙ (λ i. bit (nat_eq (upper i) (zero i))))

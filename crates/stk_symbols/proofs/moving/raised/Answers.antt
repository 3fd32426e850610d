use Rattle.std.proofs.Common.{◌∙◌, ◌+◌, ◌*◌, ◌^◌, arith}
use Rattle.stk_symbols.proofs.Made.{obeys_before as B}
use Rattle.stk_symbols.proofs.Moves.{raised_bits}
use Rattle.stk_symbols.proofs.moving.raised.Goals as goal

pub returns-in_ok-v-clause-value : goal.returns-in_ok-v-clause-value
returns-in_ok-v-clause-value c = λ numbers o.
    let w = c.args.width in
    let p = c.args.place in
    let o_zeros = B _ _ _ numbers c.in_ok-v.ensures.grown o in
    let o_low = B _ _ _ numbers c.in_ok-zeros.ensures.grown o_zeros in
    let low = c.in_ok-low.ensures.value numbers o_low in
    let zeros = c.in_ok-zeros.ensures.value numbers o_zeros in
    c.in_ok-v.ensures.value numbers o ∙ ((λ i. low i * 2 ^ p + zeros i) ∙ raised_bits (numbers c.args.value.0) w p (let l = c.requires.place in omega (arith, l)))

use Rattle.std.proofs.Common.{◌∙◌, ap, bit_and}
use Rattle.stk_symbols.proofs.Made.{obeys_before as B, term_below}
use Rattle.stk_symbols.proofs.Booleans.{and_remainder}
use Rattle.stk_symbols.proofs.arithmetic.truth_remainder.Goals as goal

pub returns-clause-value : goal.returns-clause-value
returns-clause-value c = λ numbers o.
    let n = numbers c.args.left.0 in
    let m = numbers c.args.right.0 in
    let o1 = B _ _ _ numbers c.in_ok-v.ensures.grown o in
    let o0 = B _ _ _ numbers c.in_ok-other.ensures.grown o1 in
    let h = term_below c.args.terms.now numbers 1 c.args.left.0 o0 c.requires.first in
    let l = term_below c.args.terms.now numbers 1 c.args.right.0 o0 c.requires.second in
    c.in_ok-v.ensures.value numbers o ∙ (ap (λ x. bit_and n x) (c.in_ok-other.ensures.value numbers o1) ∙ and_remainder n m h l)

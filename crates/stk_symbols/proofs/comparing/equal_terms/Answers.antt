use Rattle.std.proofs.Common.{◌∙◌, ap}
use Rattle.stk_symbols.proofs.Made.{obeys_before as B, term_below}
use Rattle.stk_terms.specs.Values.{bit}
use Rattle.stk_numbers.specs.Kinds.{width_of, is_signed}
use Rattle.stk_symbols.proofs.Signing.{equal_bits}
use Rattle.stk_symbols.proofs.comparing.equal_terms.Goals as goal

pub returns-clause-value : goal.returns-clause-value
returns-clause-value c = λ numbers o.
    let k = c.args.kind in
    let n = numbers c.args.left.0 in
    let m = numbers c.args.right.0 in
    let old = B _ _ _ numbers c.in_ok-v.ensures.grown o in
    let h = term_below c.args.terms.now numbers _ c.args.left.0 old c.requires.first in
    let l = term_below c.args.terms.now numbers _ c.args.right.0 old c.requires.second in
    c.in_ok-v.ensures.value numbers o ∙ ap bit (equal_bits (is_signed k) (width_of k) n m h l)

use Rattle.std.proofs.Common.{◌∙◌}
use Rattle.stk_symbols.proofs.Made.{obeys_before as B, term_below}
use Rattle.stk_symbols.proofs.Signing.{top_bit}
use Rattle.stk_symbols.proofs.dividing.negative.Goals as goal

pub returns-clause-value : goal.returns-clause-value
returns-clause-value c = λ numbers o.
    let h = term_below c.args.terms.now numbers c.args.width c.args.value.0 (B _ _ _ numbers c.in_ok-v.ensures.grown o) c.requires.term in
    c.in_ok-v.ensures.value numbers o ∙ top_bit c.args.width (numbers c.args.value.0) c.requires.some h

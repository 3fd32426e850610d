use Rattle.std.proofs.Common.{◌∙◌, ap}
use Rattle.stk_symbols.proofs.Made.{obeys_before as B}
use Rattle.stk_terms.specs.Values.{bit}
use Rattle.std.specs.Ordering.{int_eq}
use Rattle.stk_values.specs.Standing.{stands}
use Rattle.stk_symbols.proofs.Conversions.{zero_stands}
use Rattle.stk_symbols.proofs.converting.is_zero.Goals as goal

pub returns-clause-value : goal.returns-clause-value
returns-clause-value c = λ numbers o.
    let k = c.args.kind in
    let x = stands k (numbers c.args.value.0) in
    let o1 = B _ _ _ numbers c.in_ok-v.ensures.grown o in
    c.in_ok-v.ensures.value numbers o ∙ (ap (λ z. bit (int_eq x (stands k z))) (c.in_ok-zero.ensures.value numbers o1) ∙ ap (λ z. bit (int_eq x z)) (zero_stands k))

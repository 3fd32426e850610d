use Rattle.std.proofs.Common.{◌∙◌, not, ap}
use Rattle.stk_symbols.specs.Standing.{is_plus, turned_bits}
use Rattle.stk_symbols.proofs.Magnitudes.{not_not}
use Rattle.stk_symbols.proofs.dividing.magnitude.Goals as goal

pub returns-clause-value : goal.returns-clause-value
returns-clause-value c = λ numbers o e.
    let n = numbers c.args.value.0 in
    c.in_ok-v.ensures.value numbers (not (is_plus c.args.width n)) o e ∙ ap (λ p. turned_bits c.args.width p n) (not_not (is_plus c.args.width n))

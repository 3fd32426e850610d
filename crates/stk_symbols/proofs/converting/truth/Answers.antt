use Rattle.std.proofs.Common.{◌∙◌, pos}
use Rattle.stk_symbols.proofs.Made.{obeys_before as B}
use Rattle.std.specs.Ordering.{int_eq}
use Rattle.stk_values.specs.Standing.{stands}
use Rattle.stk_symbols.proofs.Conversions.{truth_bits}
use Rattle.stk_symbols.proofs.converting.truth.Goals as goal

pub returns-clause-value : goal.returns-clause-value
returns-clause-value c = λ numbers o.
    let x = stands c.args.kind (numbers c.args.value.0) in
    let o1 = B _ _ _ numbers c.in_ok-v.ensures.grown o in
    c.in_ok-v.ensures.value numbers (int_eq x (pos 0)) o (c.in_ok-t.ensures.value numbers o1) ∙ truth_bits x

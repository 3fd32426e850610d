use Rattle.std.proofs.Common.{◌∙◌, ◌&&◌, pos, sym, ap}
use Rattle.stk_symbols.proofs.Made.{obeys_before as B}
use Rattle.stk_terms.specs.Values.{bit}
use Rattle.std.specs.Ordering.{int_eq}
use Rattle.stk_values.specs.Standing.{stands}
use Rattle.stk_symbols.proofs.conditions.zero_divisor.Goals as goal

pub returns-in_ok-v-clause-value : goal.returns-in_ok-v-clause-value
returns-in_ok-v-clause-value c = λ numbers o.
    let b = int_eq (stands c.args.kind (numbers c.args.right.0)) (pos 0) in
    let o1 = B _ _ _ numbers c.in_ok-v.ensures.grown o in
    c.in_ok-v.ensures.value numbers o ∙ (c.in_ok-t.ensures.value numbers o1 ∙ ap (λ s. bit (s && b)) (sym c.if-divides.true ∙ c.divides.ensures))

pub returns-in_ok-v-2-clause-value : goal.returns-in_ok-v-2-clause-value
returns-in_ok-v-2-clause-value c = λ numbers o.
    let b = int_eq (stands c.args.kind (numbers c.args.right.0)) (pos 0) in
    c.in_ok-v-2.ensures.value numbers o ∙ ap (λ s. bit (s && b)) (sym c.if-divides.false ∙ c.divides.ensures)

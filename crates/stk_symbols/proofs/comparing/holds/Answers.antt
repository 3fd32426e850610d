use Rattle.std.proofs.Common.{◌∙◌, sym, ap, int_lt}
use Rattle.stk_symbols.proofs.Made.{obeys_before as B}
use Rattle.stk_terms.specs.Values.{bit}
use Rattle.std.specs.Ordering.{int_eq}
use Rattle.stk_numbers.specs.Values.{compared}
use Rattle.stk_values.specs.Standing.{stands}
use Rattle.stk_symbols.proofs.Signing.{not_below}
use Rattle.stk_symbols.proofs.comparing.holds.Goals as goal

pub returns-in_ok-v-in-Le-clause-value : goal.returns-in_ok-v-in-Le-clause-value
returns-in_ok-v-in-Le-clause-value c = λ numbers o.
    let x = stands c.args.kind (numbers c.args.left.0) in
    let y = stands c.args.kind (numbers c.args.right.0) in
    let o1 = B _ _ _ numbers c.in_ok-v-in-Le.ensures.grown o in
    c.in_ok-v-in-Le.ensures.value numbers (int_lt y x) o (c.in_ok-t-in-Le.ensures.value numbers o1) ∙ (ap bit (not_below x y) ∙ ap (λ p. bit (compared p x y)) (sym c.in-Le.is))

pub returns-in_ok-v-in-Ge-clause-value : goal.returns-in_ok-v-in-Ge-clause-value
returns-in_ok-v-in-Ge-clause-value c = λ numbers o.
    let x = stands c.args.kind (numbers c.args.left.0) in
    let y = stands c.args.kind (numbers c.args.right.0) in
    let o1 = B _ _ _ numbers c.in_ok-v-in-Ge.ensures.grown o in
    c.in_ok-v-in-Ge.ensures.value numbers (int_lt x y) o (c.in_ok-t-in-Ge.ensures.value numbers o1) ∙ (ap bit (not_below y x) ∙ ap (λ p. bit (compared p x y)) (sym c.in-Ge.is))

pub returns-in_ok-v-in-Ne-clause-value : goal.returns-in_ok-v-in-Ne-clause-value
returns-in_ok-v-in-Ne-clause-value c = λ numbers o.
    let x = stands c.args.kind (numbers c.args.left.0) in
    let y = stands c.args.kind (numbers c.args.right.0) in
    let o1 = B _ _ _ numbers c.in_ok-v-in-Ne.ensures.grown o in
    c.in_ok-v-in-Ne.ensures.value numbers (int_eq x y) o (c.in_ok-t-in-Ne.ensures.value numbers o1) ∙ ap (λ p. bit (compared p x y)) (sym c.in-Ne.is)

use Rattle.std.proofs.Common.{◌∙◌, ◌+◌, ◌-◌, ◌*◌, ◌%◌, ◌^◌, sym, ap}
use Rattle.stk_symbols.proofs.Made.{obeys_before as B, term_below}
use Rattle.stk_numbers.specs.Values.{bits_of, arith as arith_of}
use Rattle.stk_values.specs.Standing.{stands}
use Rattle.stk_symbols.proofs.Results.{sum_bits, difference_bits, product_bits, and_bits, or_bits, xor_bits}
use Rattle.stk_symbols.proofs.arithmetic.operated.Goals as goal

pub returns-in_ok-v-in-Add-clause-value : goal.returns-in_ok-v-in-Add-clause-value
returns-in_ok-v-in-Add-clause-value c = λ numbers o.
    let k = c.args.kind in
    let n = numbers c.args.left.0 in
    let m = numbers c.args.right.0 in
    let old = B _ _ _ numbers c.in_ok-v-in-Add.ensures.grown o in
    let h = term_below c.args.terms.now numbers _ c.args.left.0 old c.requires.first in
    let l = term_below c.args.terms.now numbers _ c.args.right.0 old c.requires.second in
    c.in_ok-v-in-Add.ensures.value numbers o ∙ (ap (λ x. (n + m) % 2 ^ x) c.width-w.ensures ∙ (sum_bits k n m c.requires.other h l ∙ ap (λ p. bits_of k (arith_of p k (stands k n) (stands k m))) (sym c.in-Add.is)))

pub returns-in_ok-v-in-Sub-clause-value : goal.returns-in_ok-v-in-Sub-clause-value
returns-in_ok-v-in-Sub-clause-value c = λ numbers o.
    let k = c.args.kind in
    let n = numbers c.args.left.0 in
    let m = numbers c.args.right.0 in
    let old = B _ _ _ numbers c.in_ok-v-in-Sub.ensures.grown o in
    let h = term_below c.args.terms.now numbers _ c.args.left.0 old c.requires.first in
    let l = term_below c.args.terms.now numbers _ c.args.right.0 old c.requires.second in
    c.in_ok-v-in-Sub.ensures.value numbers o ∙ (ap (λ x. (n + (2 ^ x - m)) % 2 ^ x) c.width-w.ensures ∙ (difference_bits k n m c.requires.other h l ∙ ap (λ p. bits_of k (arith_of p k (stands k n) (stands k m))) (sym c.in-Sub.is)))

pub returns-in_ok-v-in-Mul-clause-value : goal.returns-in_ok-v-in-Mul-clause-value
returns-in_ok-v-in-Mul-clause-value c = λ numbers o.
    let k = c.args.kind in
    let n = numbers c.args.left.0 in
    let m = numbers c.args.right.0 in
    let old = B _ _ _ numbers c.in_ok-v-in-Mul.ensures.grown o in
    let h = term_below c.args.terms.now numbers _ c.args.left.0 old c.requires.first in
    let l = term_below c.args.terms.now numbers _ c.args.right.0 old c.requires.second in
    c.in_ok-v-in-Mul.ensures.value numbers o ∙ (ap (λ x. (n * m) % 2 ^ x) c.width-w.ensures ∙ (product_bits k n m c.requires.other h l ∙ ap (λ p. bits_of k (arith_of p k (stands k n) (stands k m))) (sym c.in-Mul.is)))

pub returns-in_ok-v-in-And-clause-value : goal.returns-in_ok-v-in-And-clause-value
returns-in_ok-v-in-And-clause-value c = λ numbers o.
    let k = c.args.kind in
    let n = numbers c.args.left.0 in
    let m = numbers c.args.right.0 in
    let old = B _ _ _ numbers c.in_ok-v-in-And.ensures.grown o in
    let h = term_below c.args.terms.now numbers _ c.args.left.0 old c.requires.first in
    let l = term_below c.args.terms.now numbers _ c.args.right.0 old c.requires.second in
    c.in_ok-v-in-And.ensures.value numbers o ∙ (and_bits k n m c.requires.other h l ∙ ap (λ p. bits_of k (arith_of p k (stands k n) (stands k m))) (sym c.in-And.is))

pub returns-in_ok-v-in-Xor-clause-value : goal.returns-in_ok-v-in-Xor-clause-value
returns-in_ok-v-in-Xor-clause-value c = λ numbers o.
    let k = c.args.kind in
    let n = numbers c.args.left.0 in
    let m = numbers c.args.right.0 in
    let old = B _ _ _ numbers c.in_ok-v-in-Xor.ensures.grown o in
    let h = term_below c.args.terms.now numbers _ c.args.left.0 old c.requires.first in
    let l = term_below c.args.terms.now numbers _ c.args.right.0 old c.requires.second in
    c.in_ok-v-in-Xor.ensures.value numbers o ∙ (xor_bits k n m c.requires.other h l ∙ ap (λ p. bits_of k (arith_of p k (stands k n) (stands k m))) (sym c.in-Xor.is))

pub returns-in_ok-v-in-Or-clause-value : goal.returns-in_ok-v-in-Or-clause-value
returns-in_ok-v-in-Or-clause-value c = λ numbers o.
    let k = c.args.kind in
    let n = numbers c.args.left.0 in
    let m = numbers c.args.right.0 in
    let old = B _ _ _ numbers c.in_ok-v-in-Or.ensures.grown o in
    let h = term_below c.args.terms.now numbers _ c.args.left.0 old c.requires.first in
    let l = term_below c.args.terms.now numbers _ c.args.right.0 old c.requires.second in
    c.in_ok-v-in-Or.ensures.value numbers o ∙ (or_bits k n m c.requires.other h l ∙ ap (λ p. bits_of k (arith_of p k (stands k n) (stands k m))) (sym c.in-Or.is))

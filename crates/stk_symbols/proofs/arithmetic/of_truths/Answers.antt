use Rattle.std.proofs.Common.{◌∙◌, sym, ap}
use Rattle.stk_symbols.proofs.Made.{obeys_before as B, term_below}
use Rattle.stk_numbers.specs.Values.{bits_of, arith as arith_of}
use Rattle.stk_ctype.specs.declared.kind.IntKind.TheVariants as kinds
use Rattle.stk_values.specs.Standing.{stands}
use Rattle.stk_symbols.proofs.Booleans.{or_sum, xor_difference, and_product, and_quotient, and_and, xor_xor, or_or}
use Rattle.stk_symbols.proofs.arithmetic.of_truths.Goals as goal

pub returns-in_ok-v-in-Add-clause-value : goal.returns-in_ok-v-in-Add-clause-value
returns-in_ok-v-in-Add-clause-value c = λ numbers o.
    let n = numbers c.args.left.0 in
    let m = numbers c.args.right.0 in
    let old = B _ _ _ numbers c.in_ok-v-in-Add.ensures.grown o in
    let h = term_below c.args.terms.now numbers 1 c.args.left.0 old c.requires.first in
    let l = term_below c.args.terms.now numbers 1 c.args.right.0 old c.requires.second in
    c.in_ok-v-in-Add.ensures.value numbers o ∙ (or_sum n m h l ∙ ap (λ p. bits_of kinds.Bool (arith_of p kinds.Bool (stands kinds.Bool n) (stands kinds.Bool m))) (sym c.in-Add.is))

pub returns-in_ok-v-in-Sub-clause-value : goal.returns-in_ok-v-in-Sub-clause-value
returns-in_ok-v-in-Sub-clause-value c = λ numbers o.
    let n = numbers c.args.left.0 in
    let m = numbers c.args.right.0 in
    let old = B _ _ _ numbers c.in_ok-v-in-Sub.ensures.grown o in
    let h = term_below c.args.terms.now numbers 1 c.args.left.0 old c.requires.first in
    let l = term_below c.args.terms.now numbers 1 c.args.right.0 old c.requires.second in
    c.in_ok-v-in-Sub.ensures.value numbers o ∙ (xor_difference n m h l ∙ ap (λ p. bits_of kinds.Bool (arith_of p kinds.Bool (stands kinds.Bool n) (stands kinds.Bool m))) (sym c.in-Sub.is))

pub returns-in_ok-v-in-Mul-clause-value : goal.returns-in_ok-v-in-Mul-clause-value
returns-in_ok-v-in-Mul-clause-value c = λ numbers o.
    let n = numbers c.args.left.0 in
    let m = numbers c.args.right.0 in
    let old = B _ _ _ numbers c.in_ok-v-in-Mul.ensures.grown o in
    let h = term_below c.args.terms.now numbers 1 c.args.left.0 old c.requires.first in
    let l = term_below c.args.terms.now numbers 1 c.args.right.0 old c.requires.second in
    c.in_ok-v-in-Mul.ensures.value numbers o ∙ (and_product n m h l ∙ ap (λ p. bits_of kinds.Bool (arith_of p kinds.Bool (stands kinds.Bool n) (stands kinds.Bool m))) (sym c.in-Mul.is))

pub returns-in_ok-v-in-Div-clause-value : goal.returns-in_ok-v-in-Div-clause-value
returns-in_ok-v-in-Div-clause-value c = λ numbers o.
    let n = numbers c.args.left.0 in
    let m = numbers c.args.right.0 in
    let old = B _ _ _ numbers c.in_ok-v-in-Div.ensures.grown o in
    let h = term_below c.args.terms.now numbers 1 c.args.left.0 old c.requires.first in
    let l = term_below c.args.terms.now numbers 1 c.args.right.0 old c.requires.second in
    c.in_ok-v-in-Div.ensures.value numbers o ∙ (and_quotient n m h l ∙ ap (λ p. bits_of kinds.Bool (arith_of p kinds.Bool (stands kinds.Bool n) (stands kinds.Bool m))) (sym c.in-Div.is))

pub returns-in_ok-v-in-And-clause-value : goal.returns-in_ok-v-in-And-clause-value
returns-in_ok-v-in-And-clause-value c = λ numbers o.
    let n = numbers c.args.left.0 in
    let m = numbers c.args.right.0 in
    let old = B _ _ _ numbers c.in_ok-v-in-And.ensures.grown o in
    let h = term_below c.args.terms.now numbers 1 c.args.left.0 old c.requires.first in
    let l = term_below c.args.terms.now numbers 1 c.args.right.0 old c.requires.second in
    c.in_ok-v-in-And.ensures.value numbers o ∙ (and_and n m h l ∙ ap (λ p. bits_of kinds.Bool (arith_of p kinds.Bool (stands kinds.Bool n) (stands kinds.Bool m))) (sym c.in-And.is))

pub returns-in_ok-v-in-Xor-clause-value : goal.returns-in_ok-v-in-Xor-clause-value
returns-in_ok-v-in-Xor-clause-value c = λ numbers o.
    let n = numbers c.args.left.0 in
    let m = numbers c.args.right.0 in
    let old = B _ _ _ numbers c.in_ok-v-in-Xor.ensures.grown o in
    let h = term_below c.args.terms.now numbers 1 c.args.left.0 old c.requires.first in
    let l = term_below c.args.terms.now numbers 1 c.args.right.0 old c.requires.second in
    c.in_ok-v-in-Xor.ensures.value numbers o ∙ (xor_xor n m h l ∙ ap (λ p. bits_of kinds.Bool (arith_of p kinds.Bool (stands kinds.Bool n) (stands kinds.Bool m))) (sym c.in-Xor.is))

pub returns-in_ok-v-in-Or-clause-value : goal.returns-in_ok-v-in-Or-clause-value
returns-in_ok-v-in-Or-clause-value c = λ numbers o.
    let n = numbers c.args.left.0 in
    let m = numbers c.args.right.0 in
    let old = B _ _ _ numbers c.in_ok-v-in-Or.ensures.grown o in
    let h = term_below c.args.terms.now numbers 1 c.args.left.0 old c.requires.first in
    let l = term_below c.args.terms.now numbers 1 c.args.right.0 old c.requires.second in
    c.in_ok-v-in-Or.ensures.value numbers o ∙ (or_or n m h l ∙ ap (λ p. bits_of kinds.Bool (arith_of p kinds.Bool (stands kinds.Bool n) (stands kinds.Bool m))) (sym c.in-Or.is))

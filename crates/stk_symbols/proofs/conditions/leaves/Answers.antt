use Rattle.std.proofs.Common.{◌∙◌, ◌-◌, ◌^◌, true, not, ◌&&◌, ◌+ℤ◌, ◌-ℤ◌, ◌*ℤ◌, sym, ap, nat_eq}
use Rattle.stk_symbols.proofs.Made.{obeys_before as B, term_below}
use Rattle.stk_terms.specs.Values.{bit}
use Rattle.stk_numbers.specs.Kinds.{width_of, residue, decoded}
use Rattle.std.specs.Ordering.{int_eq}
use Rattle.stk_numbers.specs.Conditions.{overflows}
use Rattle.stk_values.specs.Standing.{stands}
use Rattle.stk_symbols.proofs.Results.{wide_kind}
use Rattle.stk_symbols.proofs.Overflows.{fits_bits, quotient_test, no_overflow}
use Rattle.stk_symbols.proofs.conditions.leaves.Goals as goal

pub returns-in_ok-v-in-Add-clause-value : goal.returns-in_ok-v-in-Add-clause-value
returns-in_ok-v-in-Add-clause-value c = λ numbers o.
    let k = c.args.kind in
    let n = numbers c.args.left.0 in
    let m = numbers c.args.right.0 in
    let old = B _ _ _ numbers c.in_ok-v-in-Add.ensures.grown o in
    let h = term_below c.args.terms.now numbers _ c.args.left.0 old c.requires.first in
    let l = term_below c.args.terms.now numbers _ c.args.right.0 old c.requires.second in
    let s = c.requires.signed in
    c.in_ok-v-in-Add.ensures.value numbers o
    ∙ (ap (λ x. bit (not (int_eq (decoded true x n +ℤ decoded true x m) (decoded true x (residue x (decoded true x n +ℤ decoded true x m)))))) c.width-w.ensures
    ∙ ((λ i. bit (not (int_eq (decoded (sym s i) (width_of k) n +ℤ decoded (sym s i) (width_of k) m) (decoded true (width_of k) (residue (width_of k) (decoded (sym s i) (width_of k) n +ℤ decoded (sym s i) (width_of k) m))))))
    ∙ (ap (λ b. bit (not b)) (sym (fits_bits k (stands k n +ℤ stands k m) s)) ∙ ap (λ p. bit (overflows p k (stands k n) (stands k m))) (sym c.in-Add.is))))

pub returns-in_ok-v-in-Sub-clause-value : goal.returns-in_ok-v-in-Sub-clause-value
returns-in_ok-v-in-Sub-clause-value c = λ numbers o.
    let k = c.args.kind in
    let n = numbers c.args.left.0 in
    let m = numbers c.args.right.0 in
    let old = B _ _ _ numbers c.in_ok-v-in-Sub.ensures.grown o in
    let h = term_below c.args.terms.now numbers _ c.args.left.0 old c.requires.first in
    let l = term_below c.args.terms.now numbers _ c.args.right.0 old c.requires.second in
    let s = c.requires.signed in
    c.in_ok-v-in-Sub.ensures.value numbers o
    ∙ (ap (λ x. bit (not (int_eq (decoded true x n -ℤ decoded true x m) (decoded true x (residue x (decoded true x n -ℤ decoded true x m)))))) c.width-w.ensures
    ∙ ((λ i. bit (not (int_eq (decoded (sym s i) (width_of k) n -ℤ decoded (sym s i) (width_of k) m) (decoded true (width_of k) (residue (width_of k) (decoded (sym s i) (width_of k) n -ℤ decoded (sym s i) (width_of k) m))))))
    ∙ (ap (λ b. bit (not b)) (sym (fits_bits k (stands k n -ℤ stands k m) s)) ∙ ap (λ p. bit (overflows p k (stands k n) (stands k m))) (sym c.in-Sub.is))))

pub returns-in_ok-v-in-Mul-clause-value : goal.returns-in_ok-v-in-Mul-clause-value
returns-in_ok-v-in-Mul-clause-value c = λ numbers o.
    let k = c.args.kind in
    let n = numbers c.args.left.0 in
    let m = numbers c.args.right.0 in
    let old = B _ _ _ numbers c.in_ok-v-in-Mul.ensures.grown o in
    let h = term_below c.args.terms.now numbers _ c.args.left.0 old c.requires.first in
    let l = term_below c.args.terms.now numbers _ c.args.right.0 old c.requires.second in
    let s = c.requires.signed in
    c.in_ok-v-in-Mul.ensures.value numbers o
    ∙ (ap (λ x. bit (not (int_eq (decoded true x n *ℤ decoded true x m) (decoded true x (residue x (decoded true x n *ℤ decoded true x m)))))) c.width-w.ensures
    ∙ ((λ i. bit (not (int_eq (decoded (sym s i) (width_of k) n *ℤ decoded (sym s i) (width_of k) m) (decoded true (width_of k) (residue (width_of k) (decoded (sym s i) (width_of k) n *ℤ decoded (sym s i) (width_of k) m))))))
    ∙ (ap (λ b. bit (not b)) (sym (fits_bits k (stands k n *ℤ stands k m) s)) ∙ ap (λ p. bit (overflows p k (stands k n) (stands k m))) (sym c.in-Mul.is))))

pub returns-in_ok-v-in-Div-clause-value : goal.returns-in_ok-v-in-Div-clause-value
returns-in_ok-v-in-Div-clause-value c = λ numbers o.
    let k = c.args.kind in
    let n = numbers c.args.left.0 in
    let m = numbers c.args.right.0 in
    let old = B _ _ _ numbers c.in_ok-v-in-Div.ensures.grown o in
    let h = term_below c.args.terms.now numbers _ c.args.left.0 old c.requires.first in
    let l = term_below c.args.terms.now numbers _ c.args.right.0 old c.requires.second in
    let s = c.requires.signed in
    c.in_ok-v-in-Div.ensures.value numbers o
    ∙ (ap (λ x. bit (nat_eq n (2 ^ (x - 1)) && nat_eq m (2 ^ x - 1))) c.width-w.ensures
    ∙ (ap bit (quotient_test k n m s (wide_kind k) h l) ∙ ap (λ p. bit (overflows p k (stands k n) (stands k m))) (sym c.in-Div.is)))

pub returns-in_ok-v-in-Rem-clause-value : goal.returns-in_ok-v-in-Rem-clause-value
returns-in_ok-v-in-Rem-clause-value c = λ numbers o.
    let k = c.args.kind in
    let n = numbers c.args.left.0 in
    let m = numbers c.args.right.0 in
    let old = B _ _ _ numbers c.in_ok-v-in-Rem.ensures.grown o in
    let h = term_below c.args.terms.now numbers _ c.args.left.0 old c.requires.first in
    let l = term_below c.args.terms.now numbers _ c.args.right.0 old c.requires.second in
    let s = c.requires.signed in
    c.in_ok-v-in-Rem.ensures.value numbers o
    ∙ (ap (λ x. bit (nat_eq n (2 ^ (x - 1)) && nat_eq m (2 ^ x - 1))) c.width-w.ensures
    ∙ (ap bit (quotient_test k n m s (wide_kind k) h l) ∙ ap (λ p. bit (overflows p k (stands k n) (stands k m))) (sym c.in-Rem.is)))

pub returns-in_ok-v-in_default-clause-value : goal.returns-in_ok-v-in_default-clause-value
returns-in_ok-v-in_default-clause-value c = λ numbers o.
    let d = c.in_default in
    c.in_ok-v-in_default.ensures.value numbers o ∙ ap bit (sym (no_overflow c.args.op c.args.kind (stands c.args.kind (numbers c.args.left.0)) (stands c.args.kind (numbers c.args.right.0)) d.not-Add d.not-Sub d.not-Mul d.not-Div d.not-Rem))

use Rattle.std.proofs.Common.{◌∙◌, ◌/◌, sym, ap, nat_eq, if◌then◌else◌}
use Rattle.stk_symbols.proofs.Made.{obeys_before as B, term_below}
use Rattle.stk_symbols.specs.Standing.{is_plus, turned_bits, magnitude, same}
use Rattle.stk_symbols.proofs.Results.{plain_quotient_bits, wide_kind}
use Rattle.stk_symbols.proofs.Magnitudes.{signed_quotient_bits}
use Rattle.stk_symbols.proofs.arithmetic.quotient.Goals as goal

pub returns-in_ok-v-clause-value : goal.returns-in_ok-v-clause-value
returns-in_ok-v-clause-value c = λ numbers o.
    let k = c.args.kind in
    let n = numbers c.args.left.0 in
    let m = numbers c.args.right.0 in
    let old = B _ _ _ numbers c.in_ok-v.ensures.grown o in
    let h = term_below c.args.terms.now numbers _ c.args.left.0 old c.requires.first in
    let l = term_below c.args.terms.now numbers _ c.args.right.0 old c.requires.second in
    c.in_ok-v.ensures.value numbers o ∙ (ap (λ x. turned_bits x (same (is_plus x n) (is_plus x m)) (if nat_eq (magnitude x m) 0 then 0 else magnitude x n / magnitude x m)) c.width-w.ensures ∙ signed_quotient_bits k n m c.requires.other (sym c.signed.ensures ∙ c.if-signed.true) (wide_kind k) h l)

pub returns-in_ok-v-2-clause-value : goal.returns-in_ok-v-2-clause-value
returns-in_ok-v-2-clause-value c = λ numbers o.
    let k = c.args.kind in
    let n = numbers c.args.left.0 in
    let m = numbers c.args.right.0 in
    let old = B _ _ _ numbers c.in_ok-v-2.ensures.grown o in
    let h = term_below c.args.terms.now numbers _ c.args.left.0 old c.requires.first in
    let l = term_below c.args.terms.now numbers _ c.args.right.0 old c.requires.second in
    c.in_ok-v-2.ensures.value numbers o ∙ plain_quotient_bits k n m c.requires.other (sym c.signed.ensures ∙ c.if-signed.false) h

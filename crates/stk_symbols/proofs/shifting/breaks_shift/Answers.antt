use Rattle.std.proofs.Common.{◌∙◌, ap, nat_lt}
use Rattle.stk_symbols.proofs.Made.{obeys_before as B, term_below}
use Rattle.stk_terms.specs.Values.{bit}
use Rattle.stk_numbers.specs.Kinds.{width_of, residue, decoded}
use Rattle.stk_values.specs.Charges.{wider}
use Rattle.stk_values.specs.Standing.{stands}
use Rattle.stk_symbols.proofs.Counts.{oversized_bits}
use Rattle.stk_symbols.proofs.shifting.breaks_shift.Goals as goal

pub returns-clause-value : goal.returns-clause-value
returns-clause-value c = λ numbers o.
    let m = numbers c.args.count.0 in
    let o_f = B _ _ _ numbers c.in_ok-v.ensures.grown o in
    let o_t = B _ _ _ numbers c.in_ok-f.ensures.grown o_f in
    let o_most = B _ _ _ numbers c.in_ok-t.ensures.grown o_t in
    let o_c = B _ _ _ numbers c.in_ok-most.ensures.grown o_most in
    let o_old = B _ _ _ numbers c.in_ok-c.ensures.grown o_c in
    let h = term_below c.args.terms.now numbers _ c.args.count.0 o_old c.requires in
    let e = c.in_ok-c.ensures.value numbers o_c ∙ (λ i. residue (c.wider-w.ensures i) (decoded (c.signed.ensures i) (c.width.ensures i) m)) in
    let f = c.in_ok-most.ensures.value numbers o_most ∙ (c.from.ensures ∙ c.width-2.ensures) in
    let t = c.in_ok-t.ensures.value numbers o_t ∙ (λ i. bit (nat_lt (e i) (f i))) in
    let n = c.in_ok-f.ensures.value numbers (nat_lt (residue (wider c.args.kind c.args.count_kind) (stands c.args.count_kind m)) (width_of c.args.kind)) o_f t in
    c.in_ok-v.ensures.value numbers o ∙ (n ∙ ap bit (oversized_bits c.args.kind c.args.count_kind m h))

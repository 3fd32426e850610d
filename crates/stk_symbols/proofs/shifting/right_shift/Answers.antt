use Rattle.std.proofs.Common.{◌∙◌, ◌-◌, ◌/◌, ◌%◌, ◌^◌, sym, nat_lt, if◌then◌else◌}
use Rattle.stk_symbols.proofs.Made.{obeys_before as B, term_below}
use Rattle.stk_numbers.specs.Kinds.{residue, decoded}
use Rattle.stk_terms.specs.Values.{extended, sign_bits}
use Rattle.stk_values.specs.Charges.{wider}
use Rattle.stk_values.specs.Standing.{stands}
use Rattle.stk_symbols.proofs.Counts.{wider_first, count_is}
use Rattle.stk_symbols.proofs.Shifted.{right_signed, right_plain}
use Rattle.stk_symbols.proofs.shifting.right_shift.Goals as goal

pub returns-in_ok-v-clause-value : goal.returns-in_ok-v-clause-value
returns-in_ok-v-clause-value c = λ numbers o.
    let k = c.args.kind in
    let ck = c.args.count_kind in
    let n = numbers c.args.left.0 in
    let m = numbers c.args.count.0 in
    let o_s = B _ _ _ numbers c.in_ok-v.ensures.grown o in
    let o_c = B _ _ _ numbers c.in_ok-s.ensures.grown o_s in
    let o_x = B _ _ _ numbers c.in_ok-c.ensures.grown o_c in
    let o_old = B _ _ _ numbers c.in_ok-x.ensures.grown o_x in
    let h = term_below c.args.terms.now numbers _ c.args.left.0 o_old c.requires.first in
    let g = term_below c.args.terms.now numbers _ c.args.count.0 o_old c.requires.second in
    let W = wider k ck in
    let C = residue W (stands ck m) in
    let wide = c.wider-w.ensures in
    let ex = c.in_ok-x.ensures.value numbers o_x ∙ (λ i. residue (wide i) (decoded (c.signed.ensures i) (c.width.ensures i) n)) in
    let ec = c.in_ok-c.ensures.value numbers o_c ∙ (λ i. residue (wide i) (decoded (c.signed-2.ensures i) (c.width-2.ensures i) m)) in
    let es = c.in_ok-s.ensures.value numbers o_s ∙ (λ i. if nat_lt (ec i) (wide i) then extended (wide i - ec i) (wide i) (ex i / 2 ^ ec i) else sign_bits (wide i) (ex i)) in
    c.in_ok-v.ensures.value numbers o ∙ ((λ i. es i % 2 ^ c.width-then-signed.ensures i) ∙ right_signed k W C (stands ck m) (wider_first k ck) n (sym c.signed-3.ensures ∙ c.if-signed.true) h (count_is k ck m g))

pub returns-in_ok-v-2-clause-value : goal.returns-in_ok-v-2-clause-value
returns-in_ok-v-2-clause-value c = λ numbers o.
    let k = c.args.kind in
    let ck = c.args.count_kind in
    let n = numbers c.args.left.0 in
    let m = numbers c.args.count.0 in
    let o_s = B _ _ _ numbers c.in_ok-v-2.ensures.grown o in
    let o_c = B _ _ _ numbers c.in_ok-s-2.ensures.grown o_s in
    let o_x = B _ _ _ numbers c.in_ok-c.ensures.grown o_c in
    let o_old = B _ _ _ numbers c.in_ok-x.ensures.grown o_x in
    let h = term_below c.args.terms.now numbers _ c.args.left.0 o_old c.requires.first in
    let g = term_below c.args.terms.now numbers _ c.args.count.0 o_old c.requires.second in
    let W = wider k ck in
    let C = residue W (stands ck m) in
    let wide = c.wider-w.ensures in
    let ex = c.in_ok-x.ensures.value numbers o_x ∙ (λ i. residue (wide i) (decoded (c.signed.ensures i) (c.width.ensures i) n)) in
    let ec = c.in_ok-c.ensures.value numbers o_c ∙ (λ i. residue (wide i) (decoded (c.signed-2.ensures i) (c.width-2.ensures i) m)) in
    let es = c.in_ok-s-2.ensures.value numbers o_s ∙ (λ i. if nat_lt (ec i) (wide i) then ex i / 2 ^ ec i else 0) in
    c.in_ok-v-2.ensures.value numbers o ∙ ((λ i. es i % 2 ^ c.width-else-signed.ensures i) ∙ right_plain k W C (stands ck m) (wider_first k ck) n (sym c.signed-3.ensures ∙ c.if-signed.false) h (count_is k ck m g))

use Rattle.std.proofs.Common.{◌∙◌, ◌*◌, ◌%◌, ◌^◌, nat_lt, if◌then◌else◌}
use Rattle.stk_symbols.proofs.Made.{obeys_before as B, term_below}
use Rattle.stk_numbers.specs.Kinds.{residue, decoded}
use Rattle.stk_values.specs.Charges.{wider}
use Rattle.stk_values.specs.Standing.{stands}
use Rattle.stk_symbols.proofs.Counts.{wider_first, count_is}
use Rattle.stk_symbols.proofs.Shifted.{left_bits}
use Rattle.stk_symbols.proofs.shifting.left_shift.Goals as goal

pub returns-clause-value : goal.returns-clause-value
returns-clause-value c = λ numbers o.
    let k = c.args.kind in
    let ck = c.args.count_kind in
    let n = numbers c.args.left.0 in
    let m = numbers c.args.count.0 in
    let o_s = B _ _ _ numbers c.in_ok-v.ensures.grown o in
    let o_c = B _ _ _ numbers c.in_ok-s.ensures.grown o_s in
    let o_x = B _ _ _ numbers c.in_ok-c.ensures.grown o_c in
    let o_old = B _ _ _ numbers c.in_ok-x.ensures.grown o_x in
    let h = term_below c.args.terms.now numbers _ c.args.left.0 o_old c.requires.first in
    let g = term_below c.args.terms.now numbers _ c.args.count.0 o_old c.requires.second in
    let W = wider k ck in
    let C = residue W (stands ck m) in
    let wide = c.wider-w.ensures in
    let ex = c.in_ok-x.ensures.value numbers o_x ∙ (λ i. residue (wide i) (decoded (c.signed.ensures i) (c.width.ensures i) n)) in
    let ec = c.in_ok-c.ensures.value numbers o_c ∙ (λ i. residue (wide i) (decoded (c.signed-2.ensures i) (c.width-2.ensures i) m)) in
    let es = c.in_ok-s.ensures.value numbers o_s ∙ (λ i. if nat_lt (ec i) (wide i) then (ex i * 2 ^ ec i) % 2 ^ wide i else 0) in
    c.in_ok-v.ensures.value numbers o ∙ ((λ i. es i % 2 ^ c.width-3.ensures i) ∙ left_bits k n W C (stands ck m) h (wider_first k ck) (count_is k ck m g))

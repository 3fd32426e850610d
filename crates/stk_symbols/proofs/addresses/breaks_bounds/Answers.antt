use Rattle.std.proofs.Common.{◌∙◌, not, ◌&&◌, sym, ap, nat_lt}
use Rattle.stk_symbols.proofs.Made.{obeys_before as B, term_below}
use Rattle.stk_terms.specs.Values.{bit}
use Rattle.stk_numbers.specs.Kinds.{residue, decoded}
use Rattle.stk_symbols.specs.Standing.{is_plus}
use Rattle.stk_symbols.proofs.Distances.{either, outside_signed, outside_plain}
use Rattle.stk_symbols.proofs.addresses.breaks_bounds.Goals as goal

pub returns-clause-value : goal.returns-clause-value
returns-clause-value c = λ numbers o.
    let k = c.args.kind in
    let n = numbers c.args.index.0 in
    let i = numbers c.in_ok-i.i.0 in
    let count = c.args.count in
    let o_f = B _ _ _ numbers c.in_ok-v.ensures.grown o in
    let o_t = B _ _ _ numbers c.in_ok-f.ensures.grown o_f in
    let o_i = B _ _ _ numbers c.in_ok-t.ensures.grown o_t in
    let o_old = B _ _ _ numbers c.in_ok-i.ensures.grown o_i in
    let h = term_below c.args.terms.now numbers _ c.args.index.0 o_old c.requires in
    let e = c.in_ok-i.ensures.value numbers o_i ∙ (λ j. residue 64 (decoded (c.signed-sign.ensures j) (c.width.ensures j) n)) in
    c.in_ok-v.ensures.value numbers o ∙ either c.signed-sign.result
    (λ s. c.in_ok-f.ensures.value numbers (nat_lt i count && is_plus 64 i) o_f (c.in_ok-t.ensures.signed s numbers o_t) ∙ (ap (λ u. bit (not (nat_lt u count && is_plus 64 u))) e ∙ ap bit (outside_signed k n count (sym c.signed-sign.ensures ∙ s) h)))
    (λ s. c.in_ok-f.ensures.value numbers (nat_lt i count) o_f (c.in_ok-t.ensures.plain s numbers o_t) ∙ (ap (λ u. bit (not (nat_lt u count))) e ∙ ap bit (outside_plain k n count (sym c.signed-sign.ensures ∙ s) h)))

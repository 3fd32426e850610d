use Rattle.std.proofs.Common.{◌∙◌, not, ap, nat_eq}
use Rattle.stk_symbols.proofs.Made.{obeys_before as B, term_below}
use Rattle.stk_terms.specs.Values.{bit}
use Rattle.stk_symbols.proofs.Overflows.{product_test}
use Rattle.stk_symbols.proofs.conditions.product_leaves.Goals as goal

pub returns-clause-value : goal.returns-clause-value
returns-clause-value c = λ numbers o.
    let w = c.args.width in
    let n = numbers c.args.left.0 in
    let m = numbers c.args.right.0 in
    let o_t = B _ _ _ numbers c.in_ok-v.ensures.grown o in
    let o_back = B _ _ _ numbers c.in_ok-t.ensures.grown o_t in
    let o_low = B _ _ _ numbers c.in_ok-back.ensures.grown o_back in
    let o_p = B _ _ _ numbers c.in_ok-low.ensures.grown o_low in
    let o_b = B _ _ _ numbers c.in_ok-p.ensures.grown o_p in
    let o_a = B _ _ _ numbers c.in_ok-b.ensures.grown o_b in
    let o_old = B _ _ _ numbers c.in_ok-a.ensures.grown o_a in
    let h = term_below c.args.terms.now numbers _ c.args.left.0 o_old c.requires.first in
    let l = term_below c.args.terms.now numbers _ c.args.right.0 o_old c.requires.second in
    let p = numbers c.in_ok-p.p.0 in
    let back = numbers c.in_ok-back.back.0 in
    let e = product_test w n m c.requires.some h l (numbers c.in_ok-a.a.0) (numbers c.in_ok-b.b.0) p (numbers c.in_ok-low.low.0) back (c.in_ok-a.ensures.value numbers o_a) (c.in_ok-b.ensures.value numbers o_b) (c.in_ok-p.ensures.value numbers o_p) (c.in_ok-low.ensures.value numbers o_low) (c.in_ok-back.ensures.value numbers o_back) in
    c.in_ok-v.ensures.value numbers (nat_eq p back) o (c.in_ok-t.ensures.value numbers o_t) ∙ ap (λ t. bit (not t)) e

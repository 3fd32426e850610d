use Rattle.std.proofs.Common.{◌∙◌, ◌+◌, ◌%◌, ◌^◌, not, sym, ap}
use Rattle.stk_symbols.proofs.Made.{obeys_before as B, term_below}
use Rattle.stk_terms.specs.Values.{bit}
use Rattle.stk_symbols.specs.Standing.{is_plus}
use Rattle.stk_symbols.specs.Valued.{differ}
use Rattle.stk_symbols.proofs.Signs.{sum_breaks}
use Rattle.stk_symbols.proofs.Overflows.{overflow_of_sum}
use Rattle.stk_symbols.proofs.conditions.sum_leaves.Goals as goal

pub returns-clause-value : goal.returns-clause-value
returns-clause-value c = λ numbers o.
    let w = c.args.width in
    let n = numbers c.args.left.0 in
    let m = numbers c.args.right.0 in
    let o_y = B _ _ _ numbers c.in_ok-v.ensures.grown o in
    let o_x = B _ _ _ numbers c.in_ok-y.ensures.grown o_y in
    let o_r = B _ _ _ numbers c.in_ok-x.ensures.grown o_x in
    let o_b = B _ _ _ numbers c.in_ok-r.ensures.grown o_r in
    let o_a = B _ _ _ numbers c.in_ok-b.ensures.grown o_b in
    let o_s = B _ _ _ numbers c.in_ok-a.ensures.grown o_a in
    let o_old = B _ _ _ numbers c.in_ok-s.ensures.grown o_s in
    let h = term_below c.args.terms.now numbers _ c.args.left.0 o_old c.requires.first in
    let l = term_below c.args.terms.now numbers _ c.args.right.0 o_old c.requires.second in
    let p = is_plus w n in
    let q = is_plus w m in
    let t = is_plus w ((n + m) % 2 ^ w) in
    let a = c.in_ok-a.ensures.value numbers o_a in
    let b = c.in_ok-b.ensures.value numbers o_b in
    let r = c.in_ok-r.ensures.value numbers o_r ∙ ap (λ u. bit (not (is_plus w u))) (c.in_ok-s.ensures.value numbers o_s) in
    let x = c.in_ok-x.ensures.value numbers (not p) (not t) o_x a r in
    let y = c.in_ok-y.ensures.value numbers (not q) (not t) o_y b r in
    c.in_ok-v.ensures.value numbers (differ (not p) (not t)) (differ (not q) (not t)) o x y ∙ ap bit (overflow_of_sum p q t ∙ sym (sum_breaks w n m c.requires.some h l))

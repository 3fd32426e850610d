use Rattle.std.proofs.Common.{◌∙◌, ◌/◌, nat_eq, if◌then◌else◌}
use Rattle.stk_symbols.proofs.Made.{obeys_before as B, term_below}
use Rattle.stk_symbols.specs.Standing.{is_plus, turned_bits, magnitude, same}
use Rattle.stk_symbols.proofs.Distances.{distance_by_one, distance_by}
use Rattle.stk_symbols.proofs.addresses.distance.Goals as goal

pub returns-then-size-eq1-clause-value : goal.returns-then-size-eq1-clause-value
returns-then-size-eq1-clause-value c = λ numbers o.
    let n = numbers c.args.left.0 in
    let m = numbers c.args.right.0 in
    let o_old = B _ _ _ numbers c.in_ok-d.ensures.grown o in
    let h = term_below c.args.terms.now numbers 64 c.args.left.0 o_old c.requires.first in
    let l = term_below c.args.terms.now numbers 64 c.args.right.0 o_old c.requires.second in
    distance_by_one n m c.args.size (numbers c.in_ok-d.d.0) h l (c.in_ok-d.ensures.value numbers o) c.if-size-eq1.true

pub returns-in_ok-v-clause-value : goal.returns-in_ok-v-clause-value
returns-in_ok-v-clause-value c = λ numbers o.
    let n = numbers c.args.left.0 in
    let m = numbers c.args.right.0 in
    let d = numbers c.in_ok-d.d.0 in
    let o_s = B _ _ _ numbers c.in_ok-v.ensures.grown o in
    let o_d = B _ _ _ numbers c.in_ok-s.ensures.grown o_s in
    let o_old = B _ _ _ numbers c.in_ok-d.ensures.grown o_d in
    let h = term_below c.args.terms.now numbers 64 c.args.left.0 o_old c.requires.first in
    let l = term_below c.args.terms.now numbers 64 c.args.right.0 o_old c.requires.second in
    let s = c.in_ok-s.ensures.value numbers o_s ∙ c.from.ensures in
    c.in_ok-v.ensures.value numbers o
    ∙ ((λ i. turned_bits 64 (same (is_plus 64 d) (is_plus 64 (s i))) (if nat_eq (magnitude 64 (s i)) 0 then 0 else magnitude 64 d / magnitude 64 (s i)))
    ∙ distance_by n m c.args.size d h l (c.in_ok-d.ensures.value numbers o_d) c.requires.least c.requires.most)

use Rattle.std.proofs.Common.{◌∙◌, not, ap, nat_lt}
use Rattle.stk_symbols.proofs.Made.{obeys_before as B}
use Rattle.stk_terms.specs.Values.{bit}
use Rattle.stk_symbols.specs.Standing.{is_plus}
use Rattle.stk_symbols.proofs.Magnitudes.{not_not}
use Rattle.stk_symbols.proofs.addresses.inside.Goals as goal

pub returns-in_ok-v-clause-signed : goal.returns-in_ok-v-clause-signed
returns-in_ok-v-clause-signed c = λ _ numbers o.
    let n = numbers c.args.index.0 in
    let o_f = B _ _ _ numbers c.in_ok-v.ensures.grown o in
    let o_s = B _ _ _ numbers c.in_ok-f.ensures.grown o_f in
    let o_t = B _ _ _ numbers c.in_ok-s.ensures.grown o_s in
    let o_most = B _ _ _ numbers c.in_ok-t.ensures.grown o_t in
    let t = c.in_ok-t.ensures.value numbers o_t ∙ ap (λ u. bit (nat_lt n u)) (c.in_ok-most.ensures.value numbers o_most ∙ c.from.ensures) in
    let f = c.in_ok-f.ensures.value numbers (not (is_plus 64 n)) o_f (c.in_ok-s.ensures.value numbers o_s) ∙ ap bit (not_not (is_plus 64 n)) in
    c.in_ok-v.ensures.value numbers (nat_lt n c.args.count) (is_plus 64 n) o t f

pub returns-else-sign-clause-plain : goal.returns-else-sign-clause-plain
returns-else-sign-clause-plain c = λ _ numbers o.
    let n = numbers c.args.index.0 in
    let o_most = B _ _ _ numbers c.in_ok-t.ensures.grown o in
    c.in_ok-t.ensures.value numbers o ∙ ap (λ u. bit (nat_lt n u)) (c.in_ok-most.ensures.value numbers o_most ∙ c.from.ensures)

use Rattle.std.proofs.Common.{◌∙◌, sym, ap, int_lt}
use Rattle.stk_terms.specs.Values.{bit, signed}
use Rattle.stk_numbers.specs.Kinds.{width_of, decoded}
use Rattle.stk_symbols.proofs.comparing.less.Goals as goal

pub returns-in_ok-v-clause-value : goal.returns-in_ok-v-clause-value
returns-in_ok-v-clause-value c = λ numbers o.
    let k = c.args.kind in
    let n = numbers c.args.left.0 in
    let m = numbers c.args.right.0 in
    let s = sym c.signed.ensures ∙ c.if-signed.true in
    c.in_ok-v.ensures.value numbers o ∙ (ap (λ x. bit (int_lt (signed x n) (signed x m))) c.width-w.ensures ∙ (λ i. bit (int_lt (decoded (sym s i) (width_of k) n) (decoded (sym s i) (width_of k) m))))

pub returns-in_ok-v-2-clause-value : goal.returns-in_ok-v-2-clause-value
returns-in_ok-v-2-clause-value c = λ numbers o.
    let k = c.args.kind in
    let n = numbers c.args.left.0 in
    let m = numbers c.args.right.0 in
    let s = sym c.signed.ensures ∙ c.if-signed.false in
    c.in_ok-v-2.ensures.value numbers o ∙ (λ i. bit (int_lt (decoded (sym s i) (width_of k) n) (decoded (sym s i) (width_of k) m)))

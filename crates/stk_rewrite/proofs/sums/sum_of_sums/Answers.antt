use Rattle.std.proofs.Common.{◌≡◌, ◌+◌, ◌%◌, ◌^◌, sym, ◌∙◌, arith}
use Rattle.stk_terms.specs.declared.term.TermOp.TheVariants.{Add}
use Rattle.stk_terms.specs.Values.{width_at, number_at}
use Rattle.stk_rewrite.specs.declared.right.Right.TheVariants.{Two}
use Rattle.stk_rewrite.proofs.Leaves.{via}
use Rattle.stk_rewrite.proofs.Values.{sums_meet}
use Rattle.stk_rewrite.proofs.sums.sum_of_sums.Goals as goal

pub returns-then-total-eq0 : goal.returns-then-total-eq0
returns-then-total-eq0 c = let s = c.args.terms.now in let a = c.args.a in let b = c.args.b in let x = c.in-Some.x in let y = c.in-Some-added.y in let m = c.in-Some.m in let n = c.in-Some-added.n in let p = c.in-Some.ensures in let q = c.in-Some-added.ensures in
    let gone : (m + n) % 2 ^ width_at s a.0 ≡ 0 = (λ j. (m + n) % 2 ^ sym c.width-width.ensures.is j) ∙ (sym c.apply-total.ensures ∙ c.if-total-eq0.true) in
    via s (Two Add x y) (Two Add a b) c.plain_sum.result c.plain_sum.ensures p.wide
    (λ r h. (λ j. (number_at s r x.0 + number_at s r y.0) % 2 ^ p.wide j) ∙ (sums_meet (number_at s r x.0) m (number_at s r y.0) n (2 ^ width_at s a.0) gone ∙ (λ j. (sym (p.value r) j + ((number_at s r y.0 + n) % 2 ^ c.requires.alike j)) % 2 ^ width_at s a.0) ∙ (λ j. (number_at s r a.0 + sym (q.value r) j) % 2 ^ width_at s a.0)))
    (let e : width_at s x.0 ≡ width_at s a.0 = p.wide in omega (arith, e))
    (λ d l k. (p.reached d l k.0, q.reached d l k.1))

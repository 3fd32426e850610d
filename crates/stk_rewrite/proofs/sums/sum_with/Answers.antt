use Rattle.std.proofs.Common.{◌≡◌, ◌+◌, ◌%◌, ◌^◌, sym, ◌∙◌, arith}
use Rattle.stk_terms.specs.declared.term.TermOp.TheVariants.{Add}
use Rattle.stk_terms.specs.Values.{width_at, number_at}
use Rattle.stk_rewrite.specs.declared.right.Right.TheVariants.{Last}
use Rattle.stk_rewrite.proofs.Leaves.{via}
use Rattle.stk_rewrite.proofs.Values.{sums}
use Rattle.stk_rewrite.proofs.sums.sum_with.Goals as goal

pub returns-in-Some : goal.returns-in-Some
returns-in-Some c = let s = c.args.terms.now in let a = c.args.a in let x = c.in-Some.rest in let p = c.in-Some.ensures in
    via s (Last Add x c.args.width c.apply-total.result) (Last Add a c.args.width c.args.n) c.last_sum.result c.last_sum.ensures p.wide
    (λ r h. (λ j. (number_at s r x.0 + c.apply-total.ensures j) % 2 ^ width_at s x.0) ∙ ((λ j. (number_at s r x.0 + (c.in-Some.m + c.args.n) % 2 ^ sym (p.wide ∙ c.requires.beside.alike) j) % 2 ^ width_at s x.0) ∙ (sums (number_at s r x.0) c.in-Some.m c.args.n (2 ^ width_at s x.0) ∙ ((λ j. ((number_at s r x.0 + c.in-Some.m) % 2 ^ p.wide j + c.args.n) % 2 ^ p.wide j) ∙ (λ j. (sym (p.value r) j + c.args.n) % 2 ^ width_at s a.0)))))
    (let e : width_at s x.0 ≡ width_at s a.0 = p.wide in omega (arith, e))
    (λ d l k. c.in-Some.ensures.reached d l k)

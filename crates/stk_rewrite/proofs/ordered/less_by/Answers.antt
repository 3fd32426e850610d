use Rattle.std.proofs.Common.{◌+◌, ◌-◌, ◌%◌, ◌^◌, refl, sym, ◌∙◌, arith}
use Rattle.stk_terms.specs.declared.term.TermOp.TheVariants.{Add, Sub}
use Rattle.stk_terms.specs.Values.{width_at, number_at}
use Rattle.stk_rewrite.specs.declared.right.Right.TheVariants.{Two, Last}
use Rattle.stk_rewrite.proofs.Leaves.{via}
use Rattle.stk_rewrite.proofs.Values.{difference_sum}
use Rattle.stk_rewrite.proofs.ordered.less_by.Goals as goal

pub returns : goal.returns
returns c = let s = c.args.terms.now in let a = c.args.a in let b = c.args.b in let y = c.args.y in
    via s (Last Add a c.width-width.result c.apply-opposite.result) (Two Sub a b) c.sum_with.result c.sum_with.ensures refl
    (λ r h. (λ j. (number_at s r a.0 + (c.apply-opposite.ensures ∙ (λ i. (2 ^ c.width-width.ensures.is i - y) % 2 ^ c.width-width.ensures.is i)) j) % 2 ^ width_at s a.0) ∙ (difference_sum (number_at s r a.0) y (2 ^ width_at s a.0) ∙ (λ j. (number_at s r a.0 + (2 ^ width_at s a.0 - sym (c.requires.number.value r) j)) % 2 ^ width_at s a.0)))
    (omega arith)
    (λ d l k. k.0)

use Rattle.std.proofs.Common.{◌+◌, ◌%◌, ◌^◌, refl, sym, ◌∙◌}
use Rattle.stk_terms.specs.declared.term.TermOp.TheVariants.{Add}
use Rattle.stk_terms.specs.Values.{width_at, number_at}
use Rattle.stk_rewrite.specs.declared.right.Right.TheVariants.{Last}
use Rattle.stk_rewrite.proofs.Leaves.{old_for}
use Rattle.stk_terms.proofs.Reading.{below}
use Rattle.stk_rewrite.proofs.Values.{sum_zero}
use Rattle.stk_rewrite.proofs.sums.last_sum.Goals as goal

pub returns-then-n-eq0 : goal.returns-then-n-eq0
returns-then-n-eq0 c = let s = c.args.terms.now in let a = c.args.a in
    old_for s (Last Add a c.args.width c.args.n) a c.requires.beside.part.normal refl
    (λ r h. sym ((λ j. (number_at s r a.0 + c.if-n-eq0.true j) % 2 ^ width_at s a.0) ∙ sum_zero (number_at s r a.0) (2 ^ width_at s a.0) (below s c.requires.sound r a.0 h)))
    (λ d l k. k)

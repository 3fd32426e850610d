use Rattle.std.proofs.Common.{◌-◌, ◌^◌, ◌<◌, sym, ◌∙◌, subst}
use Rattle.stk_terms.specs.declared.term.TermOp.TheVariants.{Not}
use Rattle.stk_terms.specs.Values.{width_at, number_at}
use Rattle.stk_rewrite.specs.declared.right.Right.TheVariants.{One}
use Rattle.stk_rewrite.proofs.Leaves.{old_for}
use Rattle.stk_terms.proofs.Reading.{below}
use Rattle.stk_rewrite.proofs.Values.{twice_not}
use Rattle.stk_rewrite.proofs.signs.inverted.Goals as goal

pub returns-in-Some : goal.returns-in-Some
returns-in-Some c = let s = c.args.terms.now in let a = c.args.a in let x = c.in-Some.x in let p = c.in-Some.ensures in
    old_for s (One Not a) x p.part.normal p.wide
    (λ r h. sym ((λ j. 2 ^ width_at s a.0 - 1 - p.value r j) ∙ twice_not (number_at s r x.0) (2 ^ width_at s a.0) (subst (λ w. number_at s r x.0 < 2 ^ w) p.wide (below s c.requires.sound r x.0 h))))
    (λ d l k. c.in-Some.ensures.reached d l k)

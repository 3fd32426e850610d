use Rattle.std.proofs.Common.{◌≡◌, ◌<◌, ◌^◌, sym, ◌∙◌, subst, nat_eq}
use Rattle.stk_terms.specs.declared.term.TermOp.TheVariants.{Eq}
use Rattle.stk_terms.specs.Values.{bit, width_at, number_at}
use Rattle.stk_rewrite.specs.declared.right.Right.TheVariants.{Last}
use Rattle.stk_rewrite.proofs.Leaves.{old_for}
use Rattle.stk_terms.proofs.Reading.{below}
use Rattle.stk_rewrite.proofs.Values.{equal_one}
use Rattle.stk_rewrite.proofs.equalities.last_equal.Goals as goal

pub returns-then-n-eq1 : goal.returns-then-n-eq1
returns-then-n-eq1 c = let s = c.args.terms.now in let a = c.args.a in
    let w : width_at s a.0 ≡ 1 = c.requires.beside.alike ∙ c.if-width-eq1.true in
    old_for s (Last Eq a c.args.width c.args.n) a c.requires.beside.part.normal w
    (λ r h. sym ((λ j. bit (nat_eq (number_at s r a.0) (c.if-n-eq1.true j))) ∙ equal_one (number_at s r a.0) (subst (λ w. number_at s r a.0 < 2 ^ w) w (below s c.requires.sound r a.0 h))))
    (λ d l k. k)

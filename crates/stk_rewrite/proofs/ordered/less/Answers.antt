use Rattle.std.proofs.Common.{◌≡◌, ◌<◌, ◌-◌, ◌^◌, refl, sym, ◌∙◌, subst, arith, nat_lt}
use Rattle.stk_terms.specs.declared.term.TermOp.TheVariants.{ULt}
use Rattle.stk_terms.specs.Values.{bit, width_at, number_at}
use Rattle.stk_rewrite.specs.declared.right.Right.TheVariants.{Two}
use Rattle.stk_rewrite.proofs.Leaves.{number_for}
use Rattle.stk_terms.proofs.Reading.{below}
use Rattle.stk_rewrite.proofs.Values as v
use Rattle.stk_rewrite.proofs.ordered.less.Goals as goal

pub returns-then-x-ones : goal.returns-then-x-ones
returns-then-x-ones c = let s = c.args.terms.now in let a = c.args.a in let b = c.args.b in
    let e : c.in-Some-number-2.x ≡ 2 ^ width_at s a.0 - 1 - 0 = c.if-x-ones.true ∙ (c.apply-ones.ensures ∙ (λ j. 2 ^ c.width-width.ensures.is j - 1 - 0)) in
    number_for s (Two ULt a b) 1 0 (omega arith, omega arith, omega arith) refl
    (λ r h. sym ((λ j. bit (nat_lt ((c.in-Some-number-2.ensures.value r ∙ e) j) (number_at s r b.0))) ∙ v.none_above (number_at s r b.0) (2 ^ width_at s a.0) (subst (λ w. number_at s r b.0 < 2 ^ w) (sym c.requires.pair.alike) (below s c.requires.sound r b.0 h))))

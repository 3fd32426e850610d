use Rattle.std.proofs.Common.{◌≡◌, ◌<◌, ◌%◌, ◌/◌, ◌^◌, sym, ◌∙◌, subst}
use Rattle.stk_terms.specs.declared.term.TermOp.TheVariants.{Extract}
use Rattle.stk_terms.specs.Values.{width_at, number_at}
use Rattle.stk_rewrite.specs.declared.right.Right.TheVariants.{One}
use Rattle.stk_rewrite.proofs.Leaves.{old_for}
use Rattle.stk_terms.proofs.Reading.{below}
use Rattle.stk_rewrite.proofs.Values as v
use Rattle.stk_rewrite.proofs.cuts.cut_out.Goals as goal

pub returns-then-size-width : goal.returns-then-size-width
returns-then-size-width c = let s = c.args.terms.now in let a = c.args.a in
    let e : width_at s a.0 ≡ c.args.size = sym (c.if-size-width.true ∙ c.width.ensures.is) in
    old_for s (One (Extract c.args.low c.args.size) a) a c.requires.part.normal e
    (λ r h. sym ((λ j. number_at s r a.0 / 2 ^ c.if-low-eq0.true j % 2 ^ c.args.size) ∙ v.cut_whole (number_at s r a.0) c.args.size (subst (λ w. number_at s r a.0 < 2 ^ w) e (below s c.requires.sound r a.0 h))))
    (λ d l k. k)

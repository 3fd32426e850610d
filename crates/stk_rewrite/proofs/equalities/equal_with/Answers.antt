use Rattle.std.proofs.Common.{◌≡◌, ◌<◌, ◌+◌, ◌%◌, ◌^◌, refl, sym, ◌∙◌, subst, arith, nat_eq}
use Rattle.stk_terms.specs.declared.term.TermOp.TheVariants.{Eq}
use Rattle.stk_terms.specs.Values.{bit, width_at, number_at}
use Rattle.stk_rewrite.specs.declared.right.Right.TheVariants.{Last}
use Rattle.stk_rewrite.proofs.Leaves.{via}
use Rattle.stk_terms.proofs.Reading.{below}
use Rattle.stk_rewrite.proofs.Values.{equal_moved}
use Rattle.stk_rewrite.proofs.equalities.equal_with.Goals as goal

pub returns-in-Some : goal.returns-in-Some
returns-in-Some c = let s = c.args.terms.now in let a = c.args.a in let x = c.in-Some.rest in let p = c.in-Some.ensures in
    let w = c.requires.beside.alike in
    via s (Last Eq x c.args.width c.apply-total.result) (Last Eq a c.args.width c.args.n) c.last_equal.result c.last_equal.ensures refl
    (λ r h. (λ j. bit (nat_eq (number_at s r x.0) (c.apply-total.ensures j)))
    ∙ (equal_moved (number_at s r x.0) c.in-Some.m c.args.n (2 ^ c.args.width) (subst (λ u. number_at s r x.0 < 2 ^ u) (p.wide ∙ w) (below s c.requires.sound r x.0 h)) (subst (λ u. c.in-Some.m < 2 ^ u) w p.written) c.requires.beside.written.2
    ∙ (λ j. bit (nat_eq (sym (p.value r ∙ (λ i. (number_at s r x.0 + c.in-Some.m) % 2 ^ w i)) j) c.args.n))))
    (let e : width_at s x.0 ≡ width_at s a.0 = p.wide in omega (arith, e))
    (λ d l k. c.in-Some.ensures.reached d l k)

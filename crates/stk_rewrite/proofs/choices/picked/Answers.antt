use Rattle.std.proofs.Common.{◌<◌, ◌-◌, ◌^◌, refl, sym, ◌∙◌, subst, arith, nat_eq, if◌then◌else◌}
use Rattle.stk_terms.specs.Values.{number_at}
use Rattle.stk_rewrite.specs.declared.right.Right.TheVariants.{Chosen}
use Rattle.stk_rewrite.proofs.Tests.{neither}
use Rattle.stk_rewrite.proofs.Leaves.{old_for}
use Rattle.stk_terms.proofs.Reading.{below}
use Rattle.stk_rewrite.proofs.Values as v
use Rattle.stk_rewrite.proofs.choices.picked.Goals as goal

pub returns-then-y-eq0 : goal.returns-then-y-eq0
returns-then-y-eq0 c = let s = c.args.terms.now in let t = c.args.t in let a = c.args.a in let b = c.args.b in
    old_for s (Chosen t a b) t c.requires.test.normal (c.requires.one ∙ sym (sym c.width.ensures.is ∙ c.if-width-eq1.true))
    (λ r h. sym ((λ j. if nat_eq (number_at s r t.0) 1 then (c.in-Some.ensures.value r ∙ c.if-x-eq1.true) j else (c.in-Some-number.ensures.value r ∙ c.if-y-eq0.true) j) ∙ v.yes_no (number_at s r t.0) (subst (λ w. number_at s r t.0 < 2 ^ w) c.requires.one (below s c.requires.sound r t.0 h))))
    (λ d l k. k.0)

pub returns-then-y-eq1 : goal.returns-then-y-eq1
returns-then-y-eq1 c = let s = c.args.terms.now in let t = c.args.t in let a = c.args.a in let b = c.args.b in
    record {
      built = (c.requires.test.normal, refl, tt, λ l m. neither _ _ c.requires.test.plain c.requires.once);
      wide = c.requires.one ∙ sym (sym c.width.ensures.is ∙ c.if-width-eq1.true);
      value = λ r h. (λ j. 2 ^ c.requires.one j - 1 - number_at s r t.0) ∙ sym ((λ j. if nat_eq (number_at s r t.0) 1 then (c.in-Some.ensures.value r ∙ c.if-x-eq0.true) j else (c.in-Some-number.ensures.value r ∙ c.if-y-eq1.true) j) ∙ v.no_yes (number_at s r t.0) (subst (λ w. number_at s r t.0 < 2 ^ w) c.requires.one (below s c.requires.sound r t.0 h)));
      cheap = omega arith;
      from = λ d l k. k.0;
    }

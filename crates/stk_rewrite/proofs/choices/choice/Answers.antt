use Rattle.std.proofs.Common.{◌≡◌, ◌<◌, ◌-◌, ◌^◌, sym, ◌∙◌, subst, arith, nat_eq, if◌then◌else◌}
use Rattle.stk_terms.specs.Values.{width_at, number_at}
use Rattle.stk_rewrite.specs.declared.right.Right.TheVariants.{Chosen}
use Rattle.stk_rewrite.proofs.Leaves.{via}
use Rattle.stk_terms.proofs.Reading.{below}
use Rattle.stk_rewrite.proofs.Values as v
use Rattle.stk_rewrite.proofs.choices.choice.Goals as goal

pub returns-in-Some-negated : goal.returns-in-Some-negated
returns-in-Some-negated c = let s = c.args.terms.now in let t = c.args.t in let a = c.args.a in let b = c.args.b in let u = c.in-Some-negated.u in let p = c.in-Some-negated.ensures in
    via s (Chosen u b a) (Chosen t a b) c.picked.result c.picked.ensures (sym c.requires.pair.alike)
    (λ r h. v.turned_choice (number_at s r u.0) (number_at s r a.0) (number_at s r b.0) (subst (λ w. number_at s r u.0 < 2 ^ w) (p.wide ∙ c.requires.one) (below s c.requires.sound r u.0 h)) ∙ (λ j. if nat_eq (sym (p.value r ∙ (λ i. 2 ^ c.requires.one i - 1 - number_at s r u.0)) j) 1 then number_at s r a.0 else number_at s r b.0))
    (let e : width_at s a.0 ≡ width_at s b.0 = c.requires.pair.alike in omega (arith, e))
    (λ d l k. (p.reached d l k.0, k.2, k.1))

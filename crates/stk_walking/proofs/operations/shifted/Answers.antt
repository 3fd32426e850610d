use Rattle.std.proofs.Common.{ℤ, sym, ap, ◌∙◌, subst, arith}
use Rattle.stk_numbers.specs.Kinds.{wrap, promote}
use Rattle.stk_numbers.specs.Values.{shifted}
use Rattle.stk_walking.proofs.Numbers.{promoted_stays}
use Rattle.stk_walking.proofs.operations.shifted.Goals as goal

pub returns-clause-value : goal.returns-clause-value
returns-clause-value g c = λ m x y served hx hy.
    let V = g.V.Values in
    let k1 = c.in_ok-x.ensures.keeps in
    let s1 = k1.served m served in
    let a = c.in_ok-x.ensures.value m x served hx in
    let whole = g.met.V.Values.has_number c.args.values.now m c.args.left.kind c.args.left.value served c.requires.left in
    let same = g.met.V.Values.one_number c.args.values.now m c.args.left.kind c.args.left.value x whole.0 hx whole.1 in
    let stays = ap (λ k. wrap k x) c.requires.promoted ∙ ap (wrap (promote c.args.left.kind)) same ∙ promoted_stays c.args.left.kind whole.0 whole.2 ∙ sym same in
    let found = c.in_ok-found.ensures.value m (wrap c.args.kind x) y s1 a (k1.shown m _ _ _ hy) in
    subst (λ (z : ℤ). V.shows c.shift.new.self m c.args.kind c.in_ok-found.found (shifted c.args.op c.args.kind z y)) stays found

pub returns-clause-charge : goal.returns-clause-charge
returns-clause-charge g c = omega (arith, c.in_ok-x.ensures.charge, c.in_ok-found.ensures.charge)

use Rattle.std.proofs.Common.{◌≡◌, ℕ, [], ◌∷◌, ◌∙◌, List, ℤ, sym, ap, subst, rules, set, arith}
use Rattle.stk_meaning.specs.Keys.{parameter_key}
use Rattle.stk_meaning.specs.Paths.{with_parameters}
use Rattle.stk_kinded.specs.Kinds.{register_kind}
use Rattle.stk_walking.specs.Stands.{RowShows}
use Rattle.stk_walking.proofs.Carried.{keeps_then}
use Rattle.stk_walk.proofs.Placing.{none_left}
use Rattle.stk_walk.proofs.start.set_parameters.Goals as goal

pub loop-node-preserved : goal.loop-node-preserved
loop-node-preserved g c =
    let V = g.V.Values in
    let so_far = c.loop-node.invariant in
    let k = c.in_ok-set_parameter.ensures.keeps in
    let n = c.in-Some.node.now in
    let behind = c.in-Some.behind.now in
    let split : c.loop-node.rest.now ≡ n ∷ behind = search rules in (
      keeps_then V.serves V.has_key V.made V.shows c.args.values.now c.loop-node.values c.set_parameter.new.values so_far.0 k,
      c.in_ok-set_parameter.ensures.made,
      (λ m xs served h.
          let numbers = λ (j : ℕ). g.O.WalkSetting.under c.args.out.now m (parameter_key j) in
          let r = so_far.2 m xs served h in (
            set r.0 n (numbers n),
            c.in_ok-set_parameter.ensures.value m r.0 (so_far.0.served m served) r.1,
            ap (λ (ks : List ℕ). with_parameters ks numbers r.0) (sym split) ∙ r.2,
          )),
      omega (arith, so_far.3, c.in_ok-set_parameter.ensures.charge),
    )

pub returns-clause-value : goal.returns-clause-value
returns-clause-value g c = λ m xs served h.
    let G = g.O.RunSetting.setting c.args.out.now in
    let numbers = λ (j : ℕ). g.O.WalkSetting.under c.args.out.now m (parameter_key j) in
    let r = c.loop-node.invariant.2 m xs served h in
    let none : c.loop-node.rest.now ≡ [] = none_left c.loop-node.rest.now c.in_default.ensures.cases in
    let same : r.0 ≡ with_parameters c.args.parameters.now numbers xs = ap (λ (ks : List ℕ). with_parameters ks numbers r.0) (sym none) ∙ r.2 in
    subst (λ (zs : List ℤ). RowShows (g.V.Values.shows c.loop-node.values m) (register_kind G) 0 c.loop-node.row.items zs) same r.1

pub returns-clause-charge : goal.returns-clause-charge
returns-clause-charge g c = c.loop-node.invariant.3

use Rattle.std.proofs.Common.{true, pos, length, ap}
use Rattle.stk_meaning.specs.Operations.{operated}
use Rattle.stk_meaning.specs.Expressions.{breaks}
use Rattle.stk_operators.specs.Shown.{operation_shown}
use Rattle.stk_walking.proofs.Carried.{is_made_still}
use Rattle.stk_walk_values.proofs.Checking.{walks_checked}
use Rattle.stk_walking.proofs.Costing.{costs_only, plus}
use Rattle.stk_walk_values.proofs.operators.operated_number.Goals as goal

pub check_two-requires-clause-made : goal.check_two-requires-clause-made
check_two-requires-clause-made g c = is_made_still (g.V.Values.made c.args.values.now) (g.V.Values.made c.operated.new.values) c.in_ok-number.ensures.keeps.made_still (g.O.RunSetting.setting c.args.out.now) c.args.state.now c.requires.ready.values_made

pub returns-clause-walks : goal.returns-clause-walks
returns-clause-walks g c = λ f x y same.
    let G = g.O.RunSetting.setting c.args.out.now in
    let k1 = c.in_ok-number.ensures.keeps in
    let e2 = c.in_ok-check_two.ensures in
    walks_checked (operated (operation_shown c.args.operation) x y) (breaks G c.args.node true f x y (pos 0)) k1 (e2.keeps.made_still _ _ c.in_ok-number.ensures.makes) e2.made (e2.events true f same) e2.keeps
    (λ m s before served h at. e2.stands m s x y true f served (k1.shown m _ _ _ h.0) (k1.shown m _ _ _ h.1) same at) (λ m served h. e2.keeps.shown m _ _ _ (c.in_ok-number.ensures.value m x y served h.0 h.1))

pub returns-clause-cost : goal.returns-clause-cost
returns-clause-cost g c = costs_only (ap length c.in_ok-check_two.ensures.cells) (plus _ _ _ c.in_ok-number.ensures.charge c.in_ok-check_two.ensures.charge)

use Rattle.std.proofs.Common.{pos}
use Rattle.stk_walking.proofs.Carried.{is_made_still, stands_still}
use Rattle.stk_walking.proofs.Costing.{free_first}
use Rattle.stk_walk_values.proofs.steps.check_one.Goals as goal

pub violate-requires-clause-operands : goal.violate-requires-clause-operands
violate-requires-clause-operands g c = let k1 = c.in_ok-value.ensures.keeps in record { first = k1.made_still _ _ c.requires.first; second = c.in_ok-value.ensures.makes; third = c.in_ok-value.ensures.makes }

pub violate-requires-clause-made : goal.violate-requires-clause-made
violate-requires-clause-made g c = is_made_still (g.V.Values.made c.args.values.now) (g.V.Values.made c.zero.new.values) c.in_ok-value.ensures.keeps.made_still (g.O.RunSetting.setting c.args.out.now) c.args.state.now c.requires.made

pub returns-clause-stands : goal.returns-clause-stands
returns-clause-stands g c = λ m s x accessed f served hx same at.
    let shows = g.V.Values.shows in
    let k1 = c.in_ok-value.ensures.keeps in
    let still = stands_still (shows c.args.values.now m) (shows c.zero.new.values m) (k1.shown m) (g.O.RunSetting.setting c.args.out.now) c.args.state.now s at in
    c.in_ok-violate.ensures.stands m s x (pos 0) (pos 0) accessed f (k1.served m served) (record { first = k1.shown m _ _ _ hx; second = c.in_ok-value.ensures.value m served; third = c.in_ok-value.ensures.value m served }) same still

pub returns-clause-charge : goal.returns-clause-charge
returns-clause-charge g c = free_first _ c.in_ok-value.ensures.charge c.in_ok-violate.ensures.charge

pub returns-clause-cells : goal.returns-clause-cells
returns-clause-cells g c = c.in_ok-violate.ensures.cells

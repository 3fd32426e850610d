use Rattle.std.proofs.Common.{pos, true}
use Rattle.stk_walk_values.proofs.Lasting.{both_keep, still_made, still_stands}
use Rattle.stk_walking.proofs.Costing.{free_first}
use Rattle.stk_walk_values.proofs.stores.check_operation.Goals as goal

pub violate-requires-clause-operands : goal.violate-requires-clause-operands
violate-requires-clause-operands g c =
    let k = c.in_ok-none.ensures.keeps in
    record { first = k.made_still _ _ c.requires.left; second = k.made_still _ _ c.requires.right; third = c.in_ok-none.ensures.makes }

pub violate-requires-clause-made : goal.violate-requires-clause-made
violate-requires-clause-made g c = still_made c.in_ok-none.ensures.keeps c.requires.made

pub returns-clause-events : goal.returns-clause-events
returns-clause-events g c = λ f same. c.in_ok-violate.ensures.events true f same

pub returns-clause-stands : goal.returns-clause-stands
returns-clause-stands g c = λ m s f x y served hx hy same at.
    let k = c.in_ok-none.ensures.keeps in
    c.in_ok-violate.ensures.stands m s x y (pos 0) true f (k.served m served)
    (record { first = k.shown m _ _ _ hx; second = k.shown m _ _ _ hy; third = c.in_ok-none.ensures.value m served }) same (still_stands k m at)

pub returns-clause-keeps : goal.returns-clause-keeps
returns-clause-keeps g c = both_keep c.in_ok-none.ensures.keeps c.in_ok-violate.ensures.keeps

pub returns-clause-charge : goal.returns-clause-charge
returns-clause-charge g c = free_first _ c.in_ok-none.ensures.charge c.in_ok-violate.ensures.charge

pub returns-clause-cells : goal.returns-clause-cells
returns-clause-cells g c = c.in_ok-violate.ensures.cells

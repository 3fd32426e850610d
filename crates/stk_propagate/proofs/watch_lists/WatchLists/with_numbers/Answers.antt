use Rattle.std.proofs.Common.{arith}
use Rattle.stk_propagate.proofs.Operations.{emptied}
use Rattle.stk_propagate.specs.declared.watch_lists.WatchLists.TheInside.{Inside}
use Rattle.stk_propagate.proofs.watch_lists.WatchLists.with_numbers.Goals as goal

pub invariant_of-result : goal.invariant_of-result
invariant_of-result c = (emptied _ c.args.count c.args.numbers (omega (arith, c.requires)) (c.in_ok-firsts.ensures.items_if_clones_equal (λ y e. e)) (c.in_ok-nexts.ensures.items_if_clones_equal (λ y e. e))).1

pub returns : goal.returns
returns c =
    let g : Inside = record { firsts = c.in_ok-firsts.firsts; nexts = c.in_ok-nexts.nexts } in
    (emptied g c.args.count c.args.numbers (omega (arith, c.requires)) (c.in_ok-firsts.ensures.items_if_clones_equal (λ y e. e)) (c.in_ok-nexts.ensures.items_if_clones_equal (λ y e. e))).0

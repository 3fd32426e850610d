use Rattle.stk_walking.proofs.Carried.{cells_made, cells_shown}
use Rattle.std.proofs.Common.{arith}
use Rattle.stk_walking.proofs.Costing.{costs_only}
use Rattle.stk_walking.proofs.cells.remove_cell.Goals as goal

pub keep_only-requires-clause-row : goal.keep_only-requires-clause-row
keep_only-requires-clause-row g c =
    let made = g.V.Values.made in
    (c.requires.row.0, cells_made (made c.args.values.now) (made c.opposite.new.self) c.opposite.ensures.keeps.made_still c.requires.row.0 0 c.args.cells.now.items c.requires.row.1)

pub returns-clause-made : goal.returns-clause-made
returns-clause-made g c = λ row h.
    let made = g.V.Values.made in
    c.in_ok-keep_only.ensures.made row (cells_made (made c.args.values.now) (made c.opposite.new.self) c.opposite.ensures.keeps.made_still row 0 c.args.cells.now.items h)

pub returns-clause-shown : goal.returns-clause-shown
returns-clause-shown g c = λ m row b kept served hg h.
    let shows = g.V.Values.shows in
    let k1 = c.opposite.ensures.keeps in
    c.in_ok-keep_only.ensures.shown m row b kept (k1.served m served) (c.in_ok-stays.ensures.value m b served hg)
    (cells_shown (shows c.args.values.now m) (shows c.opposite.new.self m) (k1.shown m) row 0 c.args.cells.now.items kept h)

pub returns-clause-cost : goal.returns-clause-cost
returns-clause-cost g c = λ kept. costs_only c.in_ok-keep_only.ensures.length (omega (arith, c.in_ok-stays.ensures.charge, c.in_ok-keep_only.ensures.charge))

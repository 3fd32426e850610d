use Rattle.std.proofs.Common.{◌<◌, ◌≤◌, length, not, ℕ, None, sym, subst, arith, length-set}
use Rattle.stk_meaning.specs.Paths.{KeptNumbers}
use Rattle.stk_walking.specs.Stands.{CellsShow}
use Rattle.stk_walking.proofs.Carried.{cells_made}
use Rattle.stk_walking.proofs.Rows.{zero_then}
use Rattle.stk_walking.proofs.KeptCells.{cell_in, cells_length, cell_made_in, cells_made_set, set_past, cells_removed}
use Rattle.stk_walking.proofs.cells.keep_only.Goals as goal

pub both-requires-clause-left : goal.both-requires-clause-left
both-requires-clause-left g c =
    let items = c.args.cells.now.items in
    let within : c.args.place < length items = omega arith in
    (cell_made_in (g.V.Values.made c.args.values.now) c.requires.row.0 0 items c.args.place c.index-cell.result.now c.requires.row.1 within (sym c.index-cell.ensures)).0

pub returns-then-place-len-clause-shown : goal.returns-then-place-len-clause-shown
returns-then-place-len-clause-shown g c = λ m row b kept served hg h.
    let old = g.V.Values.shows c.args.values.now m in
    let items = c.args.cells.now.items in
    let size = cells_length old row 0 items kept h in
    let past : length kept ≤ c.args.place = omega (arith, size) in
    subst (λ (z : KeptNumbers). CellsShow old row 0 items z) (set_past kept c.args.place None b past) h

pub returns-clause-length : goal.returns-clause-length
returns-clause-length g c = length-set c.args.cells.now.items c.args.place (record { known = c.in_ok-known.known; number = c.index-cell.result.now.number })

pub returns-clause-made : goal.returns-clause-made
returns-clause-made g c = λ row h.
    let made = g.V.Values.made in
    let items = c.args.cells.now.items in
    let within : c.args.place < length items = omega arith in
    let kept = cells_made (made c.args.values.now) (made c.both.new.self) c.both.ensures.keeps.made_still row 0 items h in
    let before = cell_made_in (made c.args.values.now) row 0 items c.args.place c.index-cell.result.now h within (sym c.index-cell.ensures) in
    cells_made_set (made c.both.new.self) row 0 items c.args.place (record { known = c.in_ok-known.known; number = c.index-cell.result.now.number }) kept c.in_ok-known.ensures.makes
    (c.both.ensures.keeps.made_still _ _ before.1)

pub returns-clause-shown : goal.returns-clause-shown
returns-clause-shown g c = λ m row b kept served hg h.
    let old = g.V.Values.shows c.args.values.now m in
    let now = g.V.Values.shows c.both.new.self m in
    let k1 = c.both.ensures.keeps in
    let items = c.args.cells.now.items in
    let within : c.args.place < length items = omega arith in
    let before = cell_in old row 0 items kept c.args.place c.index-cell.result.now h within (sym c.index-cell.ensures) in
    let at = subst (λ (n : ℕ). old (row n) c.index-cell.result.now.number before.number) (zero_then c.args.place) before.number_is in
    let known = c.in_ok-known.ensures.value m before.known (not b) served before.known_is hg in
    cells_removed old now (k1.shown m) row items kept c.args.place c.in_ok-known.known c.index-cell.result.now.number b before.known before.number h before.is known (k1.shown m _ _ _ at)

pub returns-clause-charge : goal.returns-clause-charge
returns-clause-charge g c = c.in_ok-known.ensures.charge

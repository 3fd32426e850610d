use Rattle.std.proofs.Common.{◌<◌, ◌≤◌, length, Some, sym, ap, ◌∙◌, subst, arith, refl, length-set}
use Rattle.std.specs.Prelude.{if◌then◌else◌}
use Rattle.stk_ctype.specs.declared.kind.IntKind.{IntKind}
use Rattle.stk_meaning.specs.Paths.{KeptNumbers}
use Rattle.stk_walking.specs.Stands.{CellsShow}
use Rattle.stk_walking.proofs.Carried.{cells_made}
use Rattle.stk_walking.proofs.Rows.{zero_then}
use Rattle.stk_walking.proofs.KeptCells.{cell_in, cells_length, cell_made_in, cells_made_set, set_past, cells_stored}
use Rattle.stk_walking.proofs.Costing.{costs_only}
use Rattle.stk_walking.proofs.cells.store_cell.Goals as goal

pub choose-requires-clause-second : goal.choose-requires-clause-second
choose-requires-clause-second g c =
    let items = c.args.cells.now.items in
    let within : c.args.at < length items = omega arith in
    subst (λ (k : IntKind). g.V.Values.made c.args.values.now k c.index-cell.result.now.number) (ap c.requires.row.0 (zero_then c.args.at) ∙ c.requires.row.1)
    (cell_made_in (g.V.Values.made c.args.values.now) c.requires.row.0 0 items c.args.at c.index-cell.result.now c.requires.row.2 within (sym c.index-cell.ensures)).1

pub returns-then-place-len-clause-shown : goal.returns-then-place-len-clause-shown
returns-then-place-len-clause-shown g c = λ m row b x kept served is hg hv h.
    let old = g.V.Values.shows c.args.values.now m in
    let items = c.args.cells.now.items in
    let size = cells_length old row 0 items kept h in
    let past : length kept ≤ c.args.at = omega (arith, size) in
    subst (λ (z : KeptNumbers). CellsShow old row 0 items z) (set_past kept c.args.at (Some x) b past) h

pub either-requires-clause-left : goal.either-requires-clause-left
either-requires-clause-left g c =
    let items = c.args.cells.now.items in
    let within : c.args.at < length items = omega arith in
    c.choose.ensures.keeps.made_still _ _
    (cell_made_in (g.V.Values.made c.args.values.now) c.requires.row.0 0 items c.args.at c.index-cell.result.now c.requires.row.2 within (sym c.index-cell.ensures)).0

pub returns-clause-made : goal.returns-clause-made
returns-clause-made g c = λ row is h.
    let made = g.V.Values.made in
    let items = c.args.cells.now.items in
    let kept = cells_made (made c.choose.new.self) (made c.either.new.values) c.either.ensures.keeps.made_still row 0 items (cells_made (made c.args.values.now) (made c.choose.new.self) c.choose.ensures.keeps.made_still row 0 items h) in
    cells_made_set (made c.either.new.values) row 0 items c.args.at (record { known = c.in_ok-known.known; number = c.in_ok-number.number }) kept c.in_ok-known.ensures.makes
    (c.either.ensures.keeps.made_still _ _ (subst (λ (k : IntKind). made c.choose.new.self k c.in_ok-number.number) (sym (ap row (zero_then c.args.at) ∙ is)) c.in_ok-number.ensures.makes))

pub returns-clause-shown : goal.returns-clause-shown
returns-clause-shown g c = λ m row b x kept served is hg hv h.
    let old = g.V.Values.shows c.args.values.now m in
    let mid = g.V.Values.shows c.choose.new.self m in
    let now = g.V.Values.shows c.either.new.values m in
    let k1 = c.choose.ensures.keeps in
    let k2 = c.either.ensures.keeps in
    let items = c.args.cells.now.items in
    let within : c.args.at < length items = omega arith in
    let before = cell_in old row 0 items kept c.args.at c.index-cell.result.now h within (sym c.index-cell.ensures) in
    let at = subst (λ (k : IntKind). old k c.index-cell.result.now.number before.number) (ap row (zero_then c.args.at) ∙ is) before.number_is in
    let number = c.in_ok-number.ensures.value m b x before.number served hg hv at in
    let known = c.in_ok-known.ensures.value m before.known b (k1.served m served) (k1.shown m _ _ _ before.known_is) (k1.shown m _ _ _ hg) in
    cells_stored old now (λ k v z p. k2.shown m k v z (k1.shown m k v z p)) row items kept c.args.at c.in_ok-known.known c.in_ok-number.number b before.known before.number x h before.is known
    (subst (λ (k : IntKind). now k c.in_ok-number.number (if b then x else before.number)) (sym is) (k2.shown m _ _ _ number))

pub returns-then-place-len-clause-cost : goal.returns-then-place-len-clause-cost
returns-then-place-len-clause-cost g c = λ kept. costs_only refl (omega arith)

pub returns-clause-cost : goal.returns-clause-cost
returns-clause-cost g c = λ kept. costs_only (length-set c.args.cells.now.items c.args.at (record { known = c.in_ok-known.known; number = c.in_ok-number.number })) (omega (arith, c.in_ok-number.ensures.charge, c.in_ok-known.ensures.charge))

use Rattle.std.proofs.Common.{◌<◌, ◌≤◌, length, get_or, ℤ, Option, Some, None, sym, ap, ◌∙◌, subst, arith, refl, length-set}
use Rattle.std.specs.Prelude.{if◌then◌else◌}
use Rattle.stk_ctype.specs.declared.kind.IntKind.{IntKind}
use Rattle.stk_meaning.specs.Paths.{KeptNumbers}
use Rattle.stk_guarded.specs.Cells.{read_of}
use Rattle.stk_guarded.proofs.Cells.{read_is}
use Rattle.stk_walking.specs.Stands.{CellsShow}
use Rattle.stk_walking.proofs.Carried.{cells_made}
use Rattle.stk_walking.proofs.Rows.{zero_then}
use Rattle.stk_walking.proofs.KeptCells.{cell_in, cells_length, cell_made_in, cells_made_set, get_past, set_past, cells_read}
use Rattle.stk_walking.proofs.Costing.{costs_only}
use Rattle.stk_walking.proofs.cells.read_cell.Goals as goal

pub choose-requires-clause-test : goal.choose-requires-clause-test
choose-requires-clause-test g c =
    let items = c.args.cells.now.items in
    let within : c.args.at < length items = omega arith in
    (cell_made_in (g.V.Values.made c.args.values.now) c.requires.row.0 0 items c.args.at c.index-cell.result.now c.requires.row.2 within (sym c.index-cell.ensures)).0

pub choose-requires-clause-first : goal.choose-requires-clause-first
choose-requires-clause-first g c =
    let items = c.args.cells.now.items in
    let within : c.args.at < length items = omega arith in
    subst (λ (k : IntKind). g.V.Values.made c.args.values.now k c.index-cell.result.now.number) (ap c.requires.row.0 (zero_then c.args.at) ∙ c.requires.row.1)
    (cell_made_in (g.V.Values.made c.args.values.now) c.requires.row.0 0 items c.args.at c.index-cell.result.now c.requires.row.2 within (sym c.index-cell.ensures)).1

pub either-requires-clause-left : goal.either-requires-clause-left
either-requires-clause-left g c =
    let items = c.args.cells.now.items in
    let within : c.args.at < length items = omega arith in
    c.choose.ensures.keeps.made_still _ _
    (cell_made_in (g.V.Values.made c.args.values.now) c.requires.row.0 0 items c.args.at c.index-cell.result.now c.requires.row.2 within (sym c.index-cell.ensures)).0

pub returns-then-place-len-clause-value : goal.returns-then-place-len-clause-value
returns-then-place-len-clause-value g c = λ m row y kept served is hl h.
    let old = g.V.Values.shows c.args.values.now m in
    let size = cells_length old row 0 c.args.cells.now.items kept h in
    let past : length kept ≤ c.args.at = omega (arith, size) in
    subst (λ (z : Option ℤ). old c.args.kind c.args.loaded (read_of y z)) (sym (get_past kept c.args.at past)) hl

pub returns-then-place-len-clause-shown : goal.returns-then-place-len-clause-shown
returns-then-place-len-clause-shown g c = λ m row b y kept served is hg hl h.
    let old = g.V.Values.shows c.args.values.now m in
    let items = c.args.cells.now.items in
    let size = cells_length old row 0 items kept h in
    let past : length kept ≤ c.args.at = omega (arith, size) in
    subst (λ (z : KeptNumbers). CellsShow old row 0 items z) (set_past kept c.args.at (Some (read_of y (get_or kept c.args.at None))) b past) h

pub returns-clause-made : goal.returns-clause-made
returns-clause-made g c = λ row is h.
    let made = g.V.Values.made in
    let items = c.args.cells.now.items in
    let kept = cells_made (made c.choose.new.self) (made c.either.new.values) c.either.ensures.keeps.made_still row 0 items (cells_made (made c.args.values.now) (made c.choose.new.self) c.choose.ensures.keeps.made_still row 0 items h) in
    cells_made_set (made c.either.new.values) row 0 items c.args.at (record { known = c.in_ok-known.known; number = c.in_ok-number.number }) kept c.in_ok-known.ensures.makes
    (c.either.ensures.keeps.made_still _ _ (subst (λ (k : IntKind). made c.choose.new.self k c.in_ok-number.number) (sym (ap row (zero_then c.args.at) ∙ is)) c.in_ok-number.ensures.makes))

pub returns-clause-value : goal.returns-clause-value
returns-clause-value g c = λ m row y kept served is hl h.
    let old = g.V.Values.shows c.args.values.now m in
    let now = g.V.Values.shows c.either.new.values m in
    let items = c.args.cells.now.items in
    let within : c.args.at < length items = omega arith in
    let before = cell_in old row 0 items kept c.args.at c.index-cell.result.now h within (sym c.index-cell.ensures) in
    let at = subst (λ (k : IntKind). old k c.index-cell.result.now.number before.number) (ap row (zero_then c.args.at) ∙ is) before.number_is in
    let number = c.in_ok-number.ensures.value m before.known before.number y served before.known_is at hl in
    subst (λ (z : ℤ). now c.args.kind c.in_ok-number.number z) (read_is before.known before.number y ∙ ap (read_of y) (sym before.is)) (c.either.ensures.keeps.shown m _ _ _ number)

pub returns-clause-shown : goal.returns-clause-shown
returns-clause-shown g c = λ m row b y kept served is hg hl h.
    let old = g.V.Values.shows c.args.values.now m in
    let now = g.V.Values.shows c.either.new.values m in
    let k1 = c.choose.ensures.keeps in
    let k2 = c.either.ensures.keeps in
    let items = c.args.cells.now.items in
    let within : c.args.at < length items = omega arith in
    let before = cell_in old row 0 items kept c.args.at c.index-cell.result.now h within (sym c.index-cell.ensures) in
    let at = subst (λ (k : IntKind). old k c.index-cell.result.now.number before.number) (ap row (zero_then c.args.at) ∙ is) before.number_is in
    let number = c.in_ok-number.ensures.value m before.known before.number y served before.known_is at hl in
    let known = c.in_ok-known.ensures.value m before.known b (k1.served m served) (k1.shown m _ _ _ before.known_is) (k1.shown m _ _ _ hg) in
    cells_read old now (λ k v z p. k2.shown m k v z (k1.shown m k v z p)) row items kept c.args.at c.in_ok-known.known c.in_ok-number.number b before.known before.number y h before.is known
    (subst (λ (k : IntKind). now k c.in_ok-number.number (if before.known then before.number else y)) (sym is) (k2.shown m _ _ _ number))

pub returns-then-place-len-clause-cost : goal.returns-then-place-len-clause-cost
returns-then-place-len-clause-cost g c = λ kept. costs_only refl (omega arith)

pub returns-clause-cost : goal.returns-clause-cost
returns-clause-cost g c = λ kept. costs_only (length-set c.args.cells.now.items c.args.at (record { known = c.in_ok-known.known; number = c.in_ok-number.number })) (omega (arith, c.in_ok-number.ensures.charge, c.in_ok-known.ensures.charge))

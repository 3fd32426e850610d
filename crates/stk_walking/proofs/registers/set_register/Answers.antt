use Rattle.std.proofs.Common.{◌<◌, ◌≤◌, length, get_or, pos, ℤ, List, sym, ap, ◌∙◌, subst, arith}
use Rattle.std.specs.Prelude.{if◌then◌else◌}
use Rattle.stk_ctype.specs.declared.kind.IntKind.{IntKind}
use Rattle.stk_walking.specs.Stands.{RowShows}
use Rattle.stk_walking.proofs.Carried.{row_made}
use Rattle.stk_walking.proofs.Rows.{row_in, row_made_in, row_made_set, row_kept_set, row_length, past_if, zero_then}
use Rattle.stk_walking.proofs.registers.set_register.Goals as goal

pub choose-requires-clause-second : goal.choose-requires-clause-second
choose-requires-clause-second g c =
    let items = c.args.registers.now.items in
    let within : c.args.at < length items = omega arith in
    subst (λ (k : IntKind). g.V.Values.made c.args.values.now k c.index.result.now) (ap c.requires.row.0 (zero_then c.args.at) ∙ c.requires.row.1)
    (row_made_in (g.V.Values.made c.args.values.now) c.requires.row.0 0 items c.args.at c.index.result.now c.requires.row.2 within (sym c.index.ensures))

pub returns-clause-makes : goal.returns-clause-makes
returns-clause-makes g c = λ row is h.
    let made = g.V.Values.made in
    let kept = row_made (made c.args.values.now) (made c.choose.new.self) c.choose.ensures.keeps.made_still row 0 c.args.registers.now.items h in
    row_made_set (made c.choose.new.self) row 0 c.args.registers.now.items c.args.at c.in_ok-chosen.chosen kept
    (subst (λ (k : IntKind). made c.choose.new.self k c.in_ok-chosen.chosen) (sym (ap row (zero_then c.args.at) ∙ is)) c.in_ok-chosen.ensures.makes)

pub returns-clause-shown : goal.returns-clause-shown
returns-clause-shown g c = λ m row b x xs served is hg hv h.
    let old = g.V.Values.shows c.args.values.now m in
    let now = g.V.Values.shows c.choose.new.self m in
    let items = c.args.registers.now.items in
    let within : c.args.at < length items = omega arith in
    let before = subst (λ (k : IntKind). old k c.index.result.now (get_or xs c.args.at (pos 0))) (ap row (zero_then c.args.at) ∙ is) (row_in old row 0 items xs c.args.at c.index.result.now h within (sym c.index.ensures)) in
    let chosen = c.in_ok-chosen.ensures.value m b x (get_or xs c.args.at (pos 0)) served hg hv before in
    row_kept_set old now (c.choose.ensures.keeps.shown m) row items xs c.args.at c.in_ok-chosen.chosen b x h
    (subst (λ (k : IntKind). now k c.in_ok-chosen.chosen (if b then x else get_or xs c.args.at (pos 0))) (sym is) chosen)

pub returns-then-place-len-clause-shown : goal.returns-then-place-len-clause-shown
returns-then-place-len-clause-shown g c = λ m row b x xs served is hg hv h.
    let old = g.V.Values.shows c.args.values.now m in
    let items = c.args.registers.now.items in
    let size = row_length old row 0 items xs h in
    let past : length xs ≤ c.args.at = omega (arith, size) in
    subst (λ (z : List ℤ). RowShows old row 0 items z) (past_if b xs c.args.at x past) h

pub returns-clause-charge : goal.returns-clause-charge
returns-clause-charge g c = c.in_ok-chosen.ensures.charge

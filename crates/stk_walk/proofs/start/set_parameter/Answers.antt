use Rattle.std.proofs.Common.{ℕ, ◌≤◌, length, subst, sym, arith, ℤ, List}
use Rattle.stk_ctype.specs.declared.kind.IntKind.{IntKind}
use Rattle.stk_meaning.specs.Keys.{parameter_key}
use Rattle.stk_kinded.specs.Kinds.{register_kind}
use Rattle.stk_walking.specs.Stands.{RowShows}
use Rattle.stk_walking.proofs.Carried.{row_made, row_shown}
use Rattle.stk_walking.proofs.Rows.{row_made_set, row_set, row_length, set_past, zero_then}
use Rattle.stk_walk.proofs.start.set_parameter.Goals as goal

pub returns-then-at-len-clause-made : goal.returns-then-at-len-clause-made
returns-then-at-len-clause-made g c =
    let made = g.V.Values.made in
    let kinds = register_kind (g.O.RunSetting.setting c.args.out.now) in
    row_made_set (made c.input_value.new.values) kinds 0 c.args.row.now.items c.args.node c.in_ok-number.number (row_made (made c.args.values.now) (made c.input_value.new.values) c.input_value.ensures.keeps.made_still kinds 0 c.args.row.now.items c.requires.made)
    (subst (λ (n : ℕ). made c.input_value.new.values (kinds n) c.in_ok-number.number) (sym (zero_then c.args.node)) (subst (λ (k : IntKind). made c.input_value.new.values k c.in_ok-number.number) c.kind_at-kind.ensures c.in_ok-number.ensures.makes))

pub returns-then-at-len-clause-value : goal.returns-then-at-len-clause-value
returns-then-at-len-clause-value g c = λ m xs served h.
    let shows = g.V.Values.shows in
    let now = shows c.input_value.new.values m in
    let kinds = register_kind (g.O.RunSetting.setting c.args.out.now) in
    let x = g.O.WalkSetting.under c.args.out.now m (parameter_key c.args.node) in
    row_set now kinds 0 c.args.row.now.items xs c.args.node c.in_ok-number.number x (row_shown (shows c.args.values.now m) now (c.input_value.ensures.keeps.shown m) kinds 0 c.args.row.now.items xs h)
    (subst (λ (n : ℕ). now (kinds n) c.in_ok-number.number x) (sym (zero_then c.args.node)) (subst (λ (k : IntKind). now k c.in_ok-number.number x) c.kind_at-kind.ensures (c.in_ok-number.ensures.value m served)))

pub returns-else-at-len-clause-made : goal.returns-else-at-len-clause-made
returns-else-at-len-clause-made g c = row_made (g.V.Values.made c.args.values.now) (g.V.Values.made c.input_value.new.values) c.input_value.ensures.keeps.made_still (register_kind (g.O.RunSetting.setting c.args.out.now)) 0 c.args.row.now.items c.requires.made

pub returns-else-at-len-clause-value : goal.returns-else-at-len-clause-value
returns-else-at-len-clause-value g c = λ m xs served h.
    let shows = g.V.Values.shows in
    let now = shows c.input_value.new.values m in
    let kinds = register_kind (g.O.RunSetting.setting c.args.out.now) in
    let x = g.O.WalkSetting.under c.args.out.now m (parameter_key c.args.node) in
    let size = row_length (shows c.args.values.now m) kinds 0 c.args.row.now.items xs h in
    let past : length xs ≤ c.args.node = omega (arith, size, c.if-at-len.false, c.args.row.now.ok.0) in
    subst (λ (z : List ℤ). RowShows now kinds 0 c.args.row.now.items z) (sym (set_past xs c.args.node x past)) (row_shown (shows c.args.values.now m) now (c.input_value.ensures.keeps.shown m) kinds 0 c.args.row.now.items xs h)

use Rattle.std.proofs.Common.{ℕ, set, sym, ◌∙◌, subst, arith}
use Rattle.std.specs.Prelude.{if◌then◌else◌}
use Rattle.stk_meaning.specs.Keys.{loop_key}
use Rattle.stk_kinded.specs.Kinds.{register_kind}
use Rattle.stk_walking.specs.Stands.{RowShows}
use Rattle.stk_walking.proofs.Carried.{row_made, row_shown}
use Rattle.stk_walking.proofs.Resetting.{some_one}
use Rattle.stk_walking.proofs.Costing.{width_most}
use Rattle.stk_walking.proofs.loop_registers.begin_register.Goals as goal

pub set_register-requires-clause-row : goal.set_register-requires-clause-row
set_register-requires-clause-row g c =
    let made = g.V.Values.made in
    let row = register_kind (g.O.RunSetting.setting c.args.out.now) in
    (row, sym c.kind_at-kind.ensures, row_made (made c.args.values.now) (made c.input_value.new.values) c.input_value.ensures.keeps.made_still row 0 c.args.registers.now.items c.requires.row)

pub returns-clause-made : goal.returns-clause-made
returns-clause-made g c =
    let made = g.V.Values.made in
    let row = register_kind (g.O.RunSetting.setting c.args.out.now) in
    c.in_ok-set_register.ensures.makes row (sym c.kind_at-kind.ensures) (row_made (made c.args.values.now) (made c.input_value.new.values) c.input_value.ensures.keeps.made_still row 0 c.args.registers.now.items c.requires.row)

pub returns-clause-shown : goal.returns-clause-shown
returns-clause-shown g c = λ m j b xs is served hg h.
    let shows = g.V.Values.shows in
    let row = register_kind (g.O.RunSetting.setting c.args.out.now) in
    let I = g.O.WalkSetting.under c.args.out.now m in
    let k1 = c.input_value.ensures.keeps in
    let before = row_shown (shows c.args.values.now m) (shows c.input_value.new.values m) (k1.shown m) row 0 c.args.registers.now.items xs h in
    let done = c.in_ok-set_register.ensures.shown m row b (I (loop_key c.args.node c.slot-register.result)) xs (k1.served m served) (sym c.kind_at-kind.ensures) (k1.shown m _ _ _ hg) (c.in_ok-number.ensures.value m served) before in
    subst (λ (i : ℕ). RowShows (shows c.set_register.new.values m) row 0 c.set_register.new.registers.items (if b then set xs i (I (loop_key c.args.node i)) else xs)) (some_one (sym c.slot-register.ensures ∙ is)) done

pub returns-clause-charge : goal.returns-clause-charge
returns-clause-charge g c = omega (arith, c.in_ok-number.ensures.charge, c.in_ok-set_register.ensures.charge, width_most c.kind_at-kind.result)

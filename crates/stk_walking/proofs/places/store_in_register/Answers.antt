use Rattle.std.proofs.Common.{set, refl}
use Rattle.stk_kinded.specs.Kinds.{register_kind}
use Rattle.stk_walking.proofs.Placed.{made_with_registers, stands_with_registers}
use Rattle.stk_walking.proofs.places.store_in_register.Goals as goal

pub set_register-requires-clause-row : goal.set_register-requires-clause-row
set_register-requires-clause-row g c = (register_kind (g.O.RunSetting.setting c.args.out.now), c.requires.suits, c.requires.made.registers)

pub returns-clause-made : goal.returns-clause-made
returns-clause-made g c =
    let G = g.O.RunSetting.setting c.args.out.now in
    let made = g.V.Values.made in
    made_with_registers (made c.args.values.now) (made c.set_register.new.values) c.in_ok-set_register.ensures.keeps.made_still G c.args.state.now c.set_register.new.registers c.requires.made
    (c.in_ok-set_register.ensures.makes (register_kind G) c.requires.suits c.requires.made.registers)

pub returns-clause-stands : goal.returns-clause-stands
returns-clause-stands g c = λ m s x served hx at.
    let G = g.O.RunSetting.setting c.args.out.now in
    let shows = g.V.Values.shows in
    stands_with_registers (shows c.args.values.now m) (shows c.set_register.new.values m) (c.in_ok-set_register.ensures.keeps.shown m) G c.args.state.now c.set_register.new.registers s (set s.numbers c.args.at x) at
    (c.in_ok-set_register.ensures.shown m (register_kind G) s.alive x s.numbers served c.requires.suits at.guard hx at.numbers)

pub returns-clause-charge : goal.returns-clause-charge
returns-clause-charge g c = c.in_ok-set_register.ensures.charge

pub returns-clause-cells : goal.returns-clause-cells
returns-clause-cells g c = refl

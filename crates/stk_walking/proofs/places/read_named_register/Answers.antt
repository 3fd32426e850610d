use Rattle.std.proofs.Common.{get_or, pos, refl}
use Rattle.stk_kinded.specs.Kinds.{register_kind}
use Rattle.stk_guarded.proofs.Evaluations.{gives_goes}
use Rattle.stk_walking.proofs.Carried.{is_made_still, stands_still}
use Rattle.stk_walking.proofs.Costing.{costs_free}
use Rattle.stk_walking.proofs.places.read_named_register.Goals as goal

pub read_register-requires : goal.read_register-requires
read_register-requires g c = (register_kind (g.O.RunSetting.setting c.args.out.now), c.requires.suits, c.requires.made.registers)

pub returns-clause-follows : goal.returns-clause-follows
returns-clause-follows g c = λ a m s served at.
    let G = g.O.RunSetting.setting c.args.out.now in
    let shows = g.V.Values.shows in
    record {
      number = get_or s.numbers c.args.at (pos 0);
      standing = s;
      value = c.in_ok-found.ensures.value m (register_kind G) s.numbers served c.requires.suits at.numbers;
      stands = stands_still (shows c.args.values.now m) (shows c.read_register.new.values m) (c.read_register.ensures.keeps.shown m) G c.args.state.now s at;
      goes = gives_goes (get_or s.numbers c.args.at (pos 0)) s;
    }

pub returns-clause-made : goal.returns-clause-made
returns-clause-made g c = is_made_still (g.V.Values.made c.args.values.now) (g.V.Values.made c.read_register.new.values) c.in_ok-found.ensures.keeps.made_still (g.O.RunSetting.setting c.args.out.now) c.args.state.now c.requires.made

pub returns-clause-cost : goal.returns-clause-cost
returns-clause-cost g c = λ kept. costs_free refl c.in_ok-found.ensures.charge

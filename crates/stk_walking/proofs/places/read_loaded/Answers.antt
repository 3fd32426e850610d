use Rattle.stk_meaning.specs.Keys.{load_key}
use Rattle.stk_guarded.proofs.Evaluations.{gives_goes}
use Rattle.stk_walking.proofs.Carried.{is_made_still, stands_still}
use Rattle.std.proofs.Common.{refl}
use Rattle.stk_walking.proofs.Costing.{costs_free}
use Rattle.stk_walking.proofs.places.read_loaded.Goals as goal

pub returns-clause-made : goal.returns-clause-made
returns-clause-made g c = is_made_still (g.V.Values.made c.args.values.now) (g.V.Values.made c.input_value.new.values) c.in_ok-found.ensures.keeps.made_still (g.O.RunSetting.setting c.args.out.now) c.args.state.now c.requires.made

pub returns-clause-follows : goal.returns-clause-follows
returns-clause-follows g c = λ m s served at.
    let G = g.O.RunSetting.setting c.args.out.now in
    let shows = g.V.Values.shows in
    let x = g.O.WalkSetting.under c.args.out.now m (load_key c.args.node) in
    record {
      number = x;
      standing = s;
      value = c.in_ok-found.ensures.value m served;
      stands = stands_still (shows c.args.values.now m) (shows c.input_value.new.values m) (c.in_ok-found.ensures.keeps.shown m) G c.args.state.now s at;
      goes = gives_goes x s;
    }

pub returns-clause-cost : goal.returns-clause-cost
returns-clause-cost g c = λ kept. costs_free refl c.in_ok-found.ensures.charge

use Rattle.std.proofs.Common.{[], ◌∙◌, subst, ap, length}
use Rattle.std.specs.Option.{option_copied}
use Rattle.stk_tree.specs.View.{given_expression}
use Rattle.stk_meaning.specs.Worlds.{Ran, Flow, Normal, Return, gives}
use Rattle.stk_meaning.specs.Paths.{KeptNumbers, path_world}
use Rattle.stk_meaning.specs.Statements.{discarded_run}
use Rattle.stk_guarded.specs.Statements.{Flows}
use Rattle.stk_guarded.proofs.Statements.{then_flows}
use Rattle.stk_walking.proofs.Carried.{keeps_then}
use Rattle.stk_walk_statements.proofs.Returning.{return_is}
use Rattle.stk_walking.proofs.Costing.{costs_still}
use Rattle.stk_walk_statements.proofs.simple.returned.Goals as goal

pub returns-clause-walked : goal.returns-clause-walked
returns-clause-walked g c =
    let V = g.V.Values in
    let G = g.O.RunSetting.setting c.args.out.now in
    let e = given_expression (option_copied c.args.e) in
    let x = c.in_ok-discarded.ensures.walked in
    let y = c.in_ok-leave_by_return.ensures in
    record {
      made = y.made G x.made;
      events = y.events ∙ x.events;
      follows = λ m s served at.
          let W = path_world (g.O.WalkSetting.under c.args.out.now m) in
          let x1 = x.follows m s served at in
          let y1 = y.follows G m x1.standing (x.keeps.served m served) x1.stands in
          record {
            standing = y1.standing;
            stands = y1.stands;
            is = subst (λ (R : Ran Flow KeptNumbers). Flows [] R s y1.standing) (return_is G W e s.numbers s.kept)
                (then_flows [] (discarded_run G W e s.numbers s.kept) (λ flow. gives Return) Normal s x1.standing y1.standing x1.is y1.flows);
          };
      keeps = keeps_then V.serves V.has_key V.made V.shows c.args.values.now c.discarded.new.values c.leave_by_return.new.values x.keeps y.keeps;
    }

pub returns-clause-cost : goal.returns-clause-cost
returns-clause-cost g c = costs_still c.in_ok-discarded.ensures.cost (ap length c.in_ok-leave_by_return.ensures.cells) c.in_ok-leave_by_return.ensures.charge

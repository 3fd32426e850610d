use Rattle.std.proofs.Common.{[]}
use Rattle.stk_tree.specs.View.{given_expression}
use Rattle.stk_meaning.specs.Worlds.{Normal}
use Rattle.stk_meaning.specs.Paths.{path_world}
use Rattle.stk_meaning.specs.Statements.{discarded_run}
use Rattle.stk_guarded.proofs.Statements.{goes_declares}
use Rattle.stk_walking.specs.StatementEvents.{discarded_events}
use Rattle.stk_walk_statements.proofs.Walking.{walked_as}
use Rattle.stk_walk_statements.proofs.statements.start.Goals as goal

pub returns-in_ok-discarded-in-Plain-clause-walked : goal.returns-in_ok-discarded-in-Plain-clause-walked
returns-in_ok-discarded-in-Plain-clause-walked g c =
    let V = g.V.Values in
    let G = g.O.RunSetting.setting c.args.out.now in
    let e = given_expression c.in-Plain.e in
    let part = rw c.as_ref.ensures.value at c.in_ok-discarded-in-Plain.ensures.walked in
    rw c.in-Plain.is
    (walked_as V.serves V.has_key V.made V.shows G (discarded_events G e) _ _ c.args.values.now c.discarded.new.values c.args.state.now c.discarded.new.state
    (λ m s t h. goes_declares [] (discarded_run G (path_world (g.O.WalkSetting.under c.args.out.now m)) e s.numbers s.kept) Normal s t h) part)

pub returns-in_ok-discarded-in-Plain-clause-cost : goal.returns-in_ok-discarded-in-Plain-clause-cost
returns-in_ok-discarded-in-Plain-clause-cost g c =
    let part = rw c.as_ref.ensures.value at c.in_ok-discarded-in-Plain.ensures.cost in
    rw c.in-Plain.is part

use Rattle.stk_tree.specs.Syntax as s
use Rattle.stk_tree.specs.View.{view_expression}
use Rattle.stk_meaning.specs.Typings.{type_in, number_kind}
use Rattle.stk_meaning.specs.Worlds.{Normal}
use Rattle.stk_meaning.specs.Paths.{path_world}
use Rattle.stk_meaning.specs.Expressions.{value_of}
use Rattle.stk_meaning.specs.Statements.{discarded_run}
use Rattle.stk_guarded.proofs.Evaluations.{gives_goes}
use Rattle.stk_walking.specs.ExpressionEvents.{value_events}
use Rattle.stk_walk_statements.specs.Walked.{as_part}
use Rattle.stk_walk_statements.proofs.Walking.{walked_none, walked_value}
use Rattle.stk_walking.proofs.Costing.{costs_none}
use Rattle.stk_walk_statements.proofs.simple.discarded.Goals as goal

pub returns-in-None-clause-walked : goal.returns-in-None-clause-walked
returns-in-None-clause-walked g c =
    let V = g.V.Values in
    let G = g.O.RunSetting.setting c.args.out.now in
    rw c.in-None.is (walked_none V.serves V.has_key V.made V.shows G (as_part (λ m. discarded_run G (path_world (g.O.WalkSetting.under c.args.out.now m)) s.no_expression)) c.args.values.now c.args.state.now c.requires.made (λ m s. gives_goes Normal s))

pub returns-in_ok-_number-in-Some-clause-walked : goal.returns-in_ok-_number-in-Some-clause-walked
returns-in_ok-_number-in-Some-clause-walked g c =
    let V = g.V.Values in
    let G = g.O.RunSetting.setting c.args.out.now in
    let e = view_expression c.in-Some.e.now in
    let n = c.in_ok-_number-in-Some in
    rw c.in-Some.is (walked_value V.serves V.has_key V.made V.shows G (value_events G e) (λ m. value_of G (path_world (g.O.WalkSetting.under c.args.out.now m)) e) (λ m x. V.shows c.value.new.values m (number_kind (type_in G.typing e)) n._number x)
    c.args.values.now c.value.new.values c.args.state.now c.value.new.state n.ensures.made n.ensures.events n.ensures.follows n.ensures.keeps)

pub returns-in-None-clause-cost : goal.returns-in-None-clause-cost
returns-in-None-clause-cost g c = rw c.in-None.is costs_none

pub returns-in_ok-_number-in-Some-clause-cost : goal.returns-in_ok-_number-in-Some-clause-cost
returns-in_ok-_number-in-Some-clause-cost g c = rw c.in-Some.is c.in_ok-_number-in-Some.ensures.cost

use Rattle.stk_tree.specs.View.{view_function}
use Rattle.stk_function_types.specs.Nodes.{typing_in}
use Rattle.stk_goals.proofs.Answered.{has_room, by_residues}
use Rattle.stk_goals.proofs.query_goal.goal_of.Goals as goal

pub returns-clause-exists : goal.returns-clause-exists
returns-clause-exists c = c.in_ok-term.ensures.normal.exists_

pub returns-clause-room : goal.returns-clause-room
returns-clause-room c =
    let places = c.args.tables.now.places in
    let q = c.args.query.now in
    let s = c.add_goal.new.symbols.terms in
    has_room (typing_in places.types) places.without (view_function c.args.function.now) q.candidate q.set.now s c.in_ok-term.term.0 c.in_ok-term.ensures.goal c.in_ok-term.ensures.goals.light

pub returns-clause-exact : goal.returns-clause-exact
returns-clause-exact c =
    let places = c.args.tables.now.places in
    let q = c.args.query.now in
    let s = c.add_goal.new.symbols.terms in
    by_residues (typing_in places.types) places.without (view_function c.args.function.now) q.candidate q.set.now s c.in_ok-term.term.0 c.in_ok-term.ensures.goal

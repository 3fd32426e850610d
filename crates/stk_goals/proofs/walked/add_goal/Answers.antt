use Rattle.stk_tree.specs.View.{view_function}
use Rattle.stk_function_types.specs.Nodes.{typing_in}
use Rattle.stk_goals.proofs.Standing.{goals_stay}
use Rattle.stk_goals.proofs.Found.{is_goal}
use Rattle.stk_goals.proofs.walked.add_goal.Goals as goal

pub goal-requires-clause-valid : goal.goal-requires-clause-valid
goal-requires-clause-valid c = c.requires.goals.made.valid

pub goal-requires-clause-steps : goal.goal-requires-clause-steps
goal-requires-clause-steps c = c.requires.goals.made.steps

pub returns-in_err-term-clause-goals : goal.returns-in_err-term-clause-goals
returns-in_err-term-clause-goals c =
    let places = c.args.tables.now.places in
    let e = c.in_err-term.ensures in
    goals_stay (typing_in places.types) places.without (view_function c.args.function.now) c.args.symbols.now c.goal.new.self c.args.walk.now.walked c.requires.goals e.kinds e.stays e.keeps

pub returns-clause-goal : goal.returns-clause-goal
returns-clause-goal c =
    let places = c.args.tables.now.places in
    let q = c.args.query.now in
    let e = c.in_ok-term.ensures in
    is_goal (typing_in places.types) places.without (view_function c.args.function.now) q.candidate q.set.now c.args.symbols.now c.goal.new.self c.args.walk.now.walked q.position c.in_ok-term.term.0 c.requires.goals c.requires.at e.stays
    (record { value = e.value; within = e.within })

pub returns-clause-goals : goal.returns-clause-goals
returns-clause-goals c =
    let places = c.args.tables.now.places in
    let e = c.in_ok-term.ensures in
    goals_stay (typing_in places.types) places.without (view_function c.args.function.now) c.args.symbols.now c.goal.new.self c.args.walk.now.walked c.requires.goals e.kinds e.stays e.keeps

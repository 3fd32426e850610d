use Rattle.std.proofs.Common.{pos, true, false, get_or, sym, ap, ◌∙◌, length}
use Rattle.std.specs.Option.{option_map}
use Rattle.stk_tree.specs.Syntax as s
use Rattle.stk_tree.specs.View.{view_expression}
use Rattle.stk_meaning.specs.Typings.{number_kind}
use Rattle.stk_meaning.specs.Conditions.{library_tests}
use Rattle.stk_meaning.specs.Expressions.{breaks}
use Rattle.stk_operators.specs.Shown.{library_shown}
use Rattle.stk_guarded.specs.Standing.{added}
use Rattle.stk_walk_values.proofs.Lasting.{arguments_shown}
use Rattle.stk_walk_values.proofs.Calling.{called_leads}
use Rattle.std.specs.Prelude.{option_map}
use Rattle.stk_walking.proofs.Costing.{costs_within, costs_then, costs_only}
use Rattle.stk_walk_values.proofs.Spending.{checked_within, called_within}
use Rattle.stk_walk_values.proofs.calls.called_number.Goals as goal

pub returns-in_ok-any-clause-events : goal.returns-in_ok-any-clause-events
returns-in_ok-any-clause-events g c = λ es. c.in_ok-any.ensures.events ∙ c.in_ok-check_arguments.ensures.events (s.call (view_expression c.args.callee.now) es) (ap library_tests (sym c.requires.library))

pub returns-in_ok-any-clause-follows : goal.returns-in_ok-any-clause-follows
returns-in_ok-any-clause-follows g c = λ es xs m s0 served at.
    let shows = g.V.Values.shows in
    let G = g.O.RunSetting.setting c.args.out.now in
    let e = view_expression c.args.callee.now in
    let f = s.call e es in
    let t = breaks G c.args.node true f (get_or xs 0 (pos 0)) (get_or xs 1 (pos 0)) (get_or xs 2 (pos 0)) in
    let at1 = c.in_ok-check_arguments.ensures.stands m s0 f xs served.0 served.1 (ap library_tests (sym c.requires.library)) at in
    let y = c.in_ok-any.ensures.follows m (added t s0) (c.check_arguments.ensures.keeps.served m served.0) at1 in
    let now = shows c.never_returned.new.values m in
    called_leads (shows c.check_arguments.new.values m) now G (g.O.WalkSetting.under c.args.out.now m) c.args.node e es (option_map library_shown c.args.library) xs true s0 c.never_returned.new.state (λ x. now (number_kind (G.typing.type_at c.args.node)) c.in_ok-any.any x)
    c.if-never_returns.ensures c.requires.library y

pub returns-in_ok-number-clause-events : goal.returns-in_ok-number-clause-events
returns-in_ok-number-clause-events g c = λ es. c.in_ok-number.ensures.events ∙ c.in_ok-check_arguments.ensures.events (s.call (view_expression c.args.callee.now) es) (ap library_tests (sym c.requires.library))

pub returns-in_ok-number-clause-follows : goal.returns-in_ok-number-clause-follows
returns-in_ok-number-clause-follows g c = λ es xs m s0 served at.
    let shows = g.V.Values.shows in
    let G = g.O.RunSetting.setting c.args.out.now in
    let e = view_expression c.args.callee.now in
    let f = s.call e es in
    let library = option_map library_shown c.args.library in
    let t = breaks G c.args.node true f (get_or xs 0 (pos 0)) (get_or xs 1 (pos 0)) (get_or xs 2 (pos 0)) in
    let k = c.check_arguments.ensures.keeps in
    let at1 = c.in_ok-check_arguments.ensures.stands m s0 f xs served.0 served.1 (ap library_tests (sym c.requires.library)) at in
    let shown = arguments_shown (shows c.args.values.now m) (shows c.check_arguments.new.values m) (k.shown m) library c.args.arguments xs served.1 in
    let y = c.in_ok-number.ensures.follows xs m (added t s0) (k.served m served.0, shown) at1 in
    let now = shows c.returned_number.new.values m in
    called_leads (shows c.check_arguments.new.values m) now G (g.O.WalkSetting.under c.args.out.now m) c.args.node e es library xs false s0 c.returned_number.new.state (λ x. now (number_kind (G.typing.type_at c.args.node)) c.in_ok-number.number x)
    c.if-never_returns.ensures c.requires.library y

pub returns-in_ok-any-clause-cost : goal.returns-in_ok-any-clause-cost
returns-in_ok-any-clause-cost g c = rw (← c.requires.library) (costs_within _ (checked_within (length (g.O.RunSetting.setting c.args.out.now).kept) (option_map library_shown c.args.library)) (costs_then (costs_only (ap length c.in_ok-check_arguments.ensures.cells) c.in_ok-check_arguments.ensures.charge) c.in_ok-any.ensures.cost))

pub returns-in_ok-number-clause-cost : goal.returns-in_ok-number-clause-cost
returns-in_ok-number-clause-cost g c = rw (← c.requires.library) (costs_within _ (called_within (length (g.O.RunSetting.setting c.args.out.now).kept) (option_map library_shown c.args.library)) (costs_then (costs_only (ap length c.in_ok-check_arguments.ensures.cells) c.in_ok-check_arguments.ensures.charge) c.in_ok-number.ensures.cost))

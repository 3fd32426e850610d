use Rattle.std.proofs.Common.{◌-◌, drop, map}
use Rattle.std.specs.Option.{option_copied}
use Rattle.stk_tree.specs.View.{view_expression, given_expression, view_part, parts, view_statement, statements, view_section, sections}
use Rattle.stk_meaning.specs.Typings.{statement_node}
use Rattle.stk_meaning.specs.Worlds.{Flow, repeated}
use Rattle.stk_meaning.specs.Statements.{parts_run, statement_run, statements_run, sections_run, while_turn, do_turn, discarded_run}
use Rattle.stk_eval_expr.specs.declared.state.State.{State}
use Rattle.stk_eval_expr.specs.Leaving.{Leaves, from}
use Rattle.stk_exec_stmt.proofs.statements.+statement.Given as goal

-- what completes the rest completes the whole
abbrev pub invariant-parts-loop-p : goal.invariant-parts-loop-p
invariant-parts-loop-p g l =
    let G = g.W.RunSetting.setting l.out in
    let W = g.W.World.world l.out in
    let shown = g.W.World.shown in
    (v : Flow) (now : State _) →
    Leaves shown (from shown (parts_run G W (parts (map view_part (drop l.p-index l.list)))) l.state) v l.state now →
    Leaves shown (from shown (parts_run G W (parts (map view_part l.list))) l.initial.state) v l.initial.state now

abbrev pub invariant-statements-loop-s : goal.invariant-statements-loop-s
invariant-statements-loop-s g l =
    let G = g.W.RunSetting.setting l.out in
    let W = g.W.World.world l.out in
    let shown = g.W.World.shown in
    (v : Flow) (now : State _) →
    Leaves shown (from shown (statements_run G W (statements (map view_statement (drop l.s-index l.list)))) l.state) v l.state now →
    Leaves shown (from shown (statements_run G W (statements (map view_statement l.list))) l.initial.state) v l.initial.state now

abbrev pub invariant-sections-loop-at : goal.invariant-sections-loop-at
invariant-sections-loop-at g l =
    let G = g.W.RunSetting.setting l.out in
    let W = g.W.World.world l.out in
    let shown = g.W.World.shown in
    (v : Flow) (now : State _) →
    Leaves shown (from shown (sections_run G W (sections (map view_section l.list)) l.at) l.state) v l.state now →
    Leaves shown (from shown (sections_run G W (sections (map view_section l.list)) l.first) l.initial.state) v l.initial.state now

-- what completes the turns that are left completes all turns
abbrev pub invariant-while_loop-loop-turn : goal.invariant-while_loop-loop-turn
invariant-while_loop-loop-turn g l =
    let G = g.W.RunSetting.setting l.out in
    let W = g.W.World.world l.out in
    let shown = g.W.World.shown in
    let body = view_statement l.body in
    let turn = while_turn G W (given_expression (option_copied l.test)) (statement_node body) (statement_run G W body) (discarded_run G W (given_expression (option_copied l.step))) in
    (v : Flow) (now : State _) → Leaves shown (from shown (repeated (W.turns - l._turn) turn) l.state) v l.state now → Leaves shown (from shown (repeated W.turns turn) l.initial.state) v l.initial.state now

abbrev pub invariant-do_loop-loop-turn : goal.invariant-do_loop-loop-turn
invariant-do_loop-loop-turn g l =
    let G = g.W.RunSetting.setting l.out in
    let W = g.W.World.world l.out in
    let shown = g.W.World.shown in
    let body = view_statement l.body in
    let turn = do_turn G W (view_expression l.test) (statement_node body) (statement_run G W body) in
    (v : Flow) (now : State _) → Leaves shown (from shown (repeated (W.turns - l._turn) turn) l.state) v l.state now → Leaves shown (from shown (repeated W.turns turn) l.initial.state) v l.initial.state now

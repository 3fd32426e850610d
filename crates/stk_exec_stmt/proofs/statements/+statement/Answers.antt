use Rattle.std.proofs.Common.{◌≡◌, suc, ◌+◌, ◌-◌, ◌<◌, if◌then◌else◌, [], ◌∷◌, length, true, false, Option, Some, None, map, option_map, drop, sym, ap, subst, ◌∙◌, refl, ℕ, ℤ, arith, rules}
use denote.Param.Weighed.{most}
use Rattle.std.proofs.lemmas.List.{drop_all}
use Rattle.std.proofs.lemmas.Result.{IfOk-weaker}
use Rattle.std.specs.Option.{option_copied}
use Rattle.stk_ctype.specs.declared.kind.IntKind.{IntKind}
use Rattle.stk_tree.specs.declared.statement.Section.{out-Section}
use Rattle.stk_tree.specs.declared.statement.Stmt.{out-Stmt}
use Rattle.stk_tree.proofs.statement.Part.TheLaws.{the_size as part_size}
use Rattle.stk_tree.proofs.statement.Section.TheLaws.{the_size as section_size}
use Rattle.stk_tree.proofs.statement.Stmt.TheLaws.{the_size}
use Rattle.stk_tree.specs.Syntax as s
use Rattle.stk_tree.specs.View.{view_expression, given_expression, maybe_statement, view_statement, statements, view_part, parts, view_section, sections, view_start}
use Rattle.stk_numbers.specs.Kinds.{wrap, promote}
use Rattle.stk_meaning.specs.declared.entry.Entry.TheVariants.{Enter}
use Rattle.stk_meaning.specs.Typings.{statement_node, number_kind, type_in}
use Rattle.stk_meaning.specs.Operations.{truth}
use Rattle.stk_meaning.specs.Visits.{parts_declare, start_declares}
use Rattle.stk_meaning.specs.Changes.{assigned_in, forgotten_in}
use Rattle.stk_meaning.specs.Worlds.{Ran, Flow, Normal, Break, Continue, Return, repeated, Another, Ended, entered, and_then, gives, left_switch}
use Rattle.stk_meaning.specs.Expressions.{test_of}
use Rattle.stk_meaning.specs.Statements.{statement_run, otherwise_run, statements_run, parts_run, part_run, section_run, sections_run, start_run, turned_body, while_turn, do_turn, loop_run, discarded_run, chosen, from_chosen}
use Rattle.stk_eval_expr.specs.Shown.{flow_shown}
use Rattle.stk_eval_expr.specs.Loops.{EachLoop, EachLoopOfOther, EachLoopOfStatements, EachLoopOfParts, EachLoopOfPart, EachLoopOfSections, EachLoopOfSection}
use Rattle.stk_eval_expr.specs.Leaving.{Leaves, Adds, from, value_run, test_run}
use Rattle.stk_eval_expr.proofs.LeavingLaws.{then_leaves, after_leaves, value_leaves, same_leaves}
use Rattle.stk_exec_stmt.specs.Ending.{turned_shown, form_of, past_switch, loop_end}
use Rattle.stk_exec_stmt.specs.Saved.{given_back}
use Rattle.stk_exec_stmt.proofs.Choices.{section_at, sections_end}
use Rattle.stk_exec_stmt.proofs.Depths.{element_below, in_section, in_part, in_block, in_switch, in_if, in_other, in_while, in_do, in_for}
use Rattle.stk_exec_stmt.proofs.EachLoops.{of_part, of_section, of_statement}
use Rattle.stk_exec_stmt.proofs.Flowing.{next_of, next_leaves, stop_leaves, tested_leaves, scope_leaves, entered_goes_on, entered_ends, left_leaves, begun_leaves, another_leaves, ended_leaves, spent_leaves}
use Rattle.stk_exec_stmt.proofs.Saving.{restores}
use Rattle.stk_exec_stmt.proofs.StatementViews.{view_node, at_block, at_expression_statement, at_if_statement, at_switch_statement, at_while_statement, at_do_statement, at_for_statement, at_break_statement, at_continue_statement, at_return_statement, at_run, at_section}
use Rattle.stk_exec_stmt.proofs.statements.+statement.Goals as goal

pub statement-returns-in-Block : goal.statement-returns-in-Block
statement-returns-in-Block g t c = rw (at_block c.args.s.now c.in-Block.list c.in-Block.is, ← c.as_slice.ensures) c.block.ensures

pub statement-returns-in_ok-discarded-in-Plain : goal.statement-returns-in_ok-discarded-in-Plain
statement-returns-in_ok-discarded-in-Plain g t c = rw (at_expression_statement c.args.s.now c.in-Plain.e c.in-Plain.is, ← c.as_ref.ensures.value) c.in_ok-discarded-in-Plain.ensures

pub statement-returns-then-is_true : goal.statement-returns-then-is_true
statement-returns-then-is_true g t c =
    let G = g.W.RunSetting.setting c.args.out.now in
    let W = g.W.World.world c.args.out.now in
    let shown = g.W.World.shown in
    let e = view_expression c.in-If.e in
    let x = view_statement c.get.result.now in
    let y = maybe_statement (option_map view_statement c.in-If.other) in
    let s0 = c.args.state.now in
    let s1 = c.tested.new.state in
    let s2 = c.entered.new.state in
    rw (at_if_statement c.args.s.now c.in-If.e c.in-If.x c.in-If.other c.in-If.is, ← c.get.ensures)
    (IfOk-weaker c.entered.result (λ v. Leaves shown (entered (statement_node x) (from shown (statement_run G W x) s1)) (flow_shown v) s1 s2) _
    (λ v h. tested_leaves (test_run shown G W e s0) (λ r m. entered (statement_node x) (statement_run G W x r m)) (otherwise_run G W y) c.in_ok-n-in-If.n true (flow_shown v) s0 s1 s2 c.if-is_true.ensures c.in_ok-n-in-If.ensures h)
    c.entered.ensures)

pub statement-returns-else-is_true : goal.statement-returns-else-is_true
statement-returns-else-is_true g t c =
    let G = g.W.RunSetting.setting c.args.out.now in
    let W = g.W.World.world c.args.out.now in
    let shown = g.W.World.shown in
    let e = view_expression c.in-If.e in
    let x = view_statement c.in-If.x in
    let y = maybe_statement (option_map view_statement c.in-If.other) in
    let s0 = c.args.state.now in
    let s1 = c.tested.new.state in
    let s2 = c.otherwise.new.state in
    rw (at_if_statement c.args.s.now c.in-If.e c.in-If.x c.in-If.other c.in-If.is)
    (IfOk-weaker c.otherwise.result (λ v. Leaves shown (from shown (otherwise_run G W y) s1) (flow_shown v) s1 s2) _
    (λ v h. tested_leaves (test_run shown G W e s0) (λ r m. entered (statement_node x) (statement_run G W x r m)) (otherwise_run G W y) c.in_ok-n-in-If.n false (flow_shown v) s0 s1 s2 c.if-is_true.ensures c.in_ok-n-in-If.ensures h)
    c.otherwise.ensures)

pub statement-returns-in-Switch : goal.statement-returns-in-Switch
statement-returns-in-Switch g t c = rw (at_switch_statement c.args.s.now c.in-Switch.e c.in-Switch.list c.in-Switch.is, ← c.as_slice-in-Switch.ensures) c.switch.ensures

pub statement-returns-in-While : goal.statement-returns-in-While
statement-returns-in-While g t c =
    let is = at_while_statement c.args.s.now c.in-While.e c.in-While.x c.in-While.is in
    let left = rw (is, c.get-in-While.ensures) at c.while_loop.ensures in
    rw is left

pub statement-returns-in-Do : goal.statement-returns-in-Do
statement-returns-in-Do g t c =
    let is = at_do_statement c.args.s.now c.in-Do.x c.in-Do.e c.in-Do.is in
    let left = rw (is, c.get-in-Do.ensures) at c.do_loop.ensures in
    rw is left

pub statement-returns-in-For : goal.statement-returns-in-For
statement-returns-in-For g t c =
    let is = at_for_statement c.args.s.now c.in-For.first c.in-For.test c.in-For.step c.in-For.x c.in-For.is in
    let left = rw (is, c.get-in-For.ensures, c.as_ref-test.ensures.value, c.as_ref-in-For.ensures.value) at c.for_loop.ensures in
    rw is left

pub statement-returns-in-Break : goal.statement-returns-in-Break
statement-returns-in-Break g t c = rw (at_break_statement c.args.s.now c.in-Break.is) (value_leaves Break Break c.args.state.now refl)

pub statement-returns-in-Continue : goal.statement-returns-in-Continue
statement-returns-in-Continue g t c = rw (at_continue_statement c.args.s.now c.in-Continue.is) (value_leaves Continue Continue c.args.state.now refl)

pub statement-returns-in-Return : goal.statement-returns-in-Return
statement-returns-in-Return g t c = rw (at_return_statement c.args.s.now c.in-Return.e c.in-Return.is, ← c.as_ref-in-Return.ensures.value) c.returned.ensures

pub block-returns : goal.block-returns
block-returns g t c =
    let G = g.W.RunSetting.setting c.args.out.now in
    let W = g.W.World.world c.args.out.now in
    let shown = g.W.World.shown in
    let ps = parts (map view_part c.args.list.now) in
    let ks = parts_declare ps in
    let s0 = c.args.state.now in
    let s1 = c.parts.new.state in
    let old = s0.registers.items in
    scope_leaves ks old (from shown (parts_run G W ps) s0) (flow_shown c.in_ok-flow.flow) s0 s1 (record s1 { registers = c.give_back.new.registers }) c.in_ok-flow.ensures refl
    (c.give_back.ensures ∙ ap (λ z. given_back z s1.registers.items) c.in_ok-saved.ensures ∙ restores ks old s1.registers.items) refl refl refl

pub parts-loop-p-preserved : goal.parts-loop-p-preserved
parts-loop-p-preserved g t c =
    λ v now h.
    let G = g.W.RunSetting.setting c.args.out.now in
    let W = g.W.World.world c.args.out.now in
    let shown = g.W.World.shown in
    let step = next_of c.args.list.now c.loop-p.p-index c.p-item.result c.loop-p-test.true c.p-item.is in
    let p = view_part c.p-item.result in
    let ps = parts (map view_part (drop (c.loop-p.p-index + 1) c.args.list.now)) in
    c.loop-p.invariant v now (rw step (next_leaves (from shown (part_run G W p) c.loop-p.state) (λ r m. parts_run G W ps r m) (flow_shown c.in_ok-flow.flow) v c.loop-p.state c.part.new.state now (sym c.is_normal.ensures ∙ c.if-not-is_normal.false) c.in_ok-flow.ensures h))

pub parts-returns-then-not-is_normal : goal.parts-returns-then-not-is_normal
parts-returns-then-not-is_normal g t c =
    let G = g.W.RunSetting.setting c.args.out.now in
    let W = g.W.World.world c.args.out.now in
    let shown = g.W.World.shown in
    let step = next_of c.args.list.now c.loop-p.p-index c.p-item.result c.loop-p-test.true c.p-item.is in
    let p = view_part c.p-item.result in
    let ps = parts (map view_part (drop (c.loop-p.p-index + 1) c.args.list.now)) in
    let v = flow_shown c.in_ok-flow.flow in
    c.loop-p.invariant v c.part.new.state (rw step (stop_leaves (from shown (part_run G W p) c.loop-p.state) (λ r m. parts_run G W ps r m) v c.loop-p.state c.part.new.state (sym c.is_normal.ensures ∙ c.if-not-is_normal.true) c.in_ok-flow.ensures))

pub parts-returns : goal.parts-returns
parts-returns g t c =
    let none : drop c.loop-p.p-index c.args.list.now ≡ [] = drop_all c.loop-p.p-index c.args.list.now (omega arith) in
    c.loop-p.invariant Normal c.loop-p.state (rw none (value_leaves Normal Normal c.loop-p.state refl))

pub for_loop-returns : goal.for_loop-returns
for_loop-returns g t c =
    let G = g.W.RunSetting.setting c.args.out.now in
    let W = g.W.World.world c.args.out.now in
    let shown = g.W.World.shown in
    let whole = view_statement c.args.whole.now in
    let body = view_statement c.args.body.now in
    let first = view_start c.args.first.now in
    let turn = while_turn G W (given_expression (option_copied c.args.test)) (statement_node body) (statement_run G W body) (discarded_run G W (given_expression (option_copied c.args.step))) in
    let runs = loop_run G W (statement_node whole) (form_of whole) turn in
    let ks = start_declares first in
    let s0 = c.args.state.now in
    let s1 = c.start.new.state in
    let s2 = c.while_loop.new.state in
    let old = s0.registers.items in
    let v = flow_shown c.in_ok-flow.flow in
    let inner = then_leaves (from shown (start_run G W first) s0) (λ flow. runs) Normal v s0 s1 s2 c.in_ok-start.ensures c.in_ok-flow.ensures in
    scope_leaves ks old (and_then (from shown (start_run G W first) s0) (λ flow. runs)) v s0 s2 (record s2 { registers = c.give_back.new.registers }) inner refl
    (c.give_back.ensures ∙ ap (λ z. given_back z s2.registers.items) c.in_ok-saved.ensures ∙ restores ks old s2.registers.items) refl refl refl

pub while_loop-loop-turn-init : goal.while_loop-loop-turn-init
while_loop-loop-turn-init g t c =
    λ v now h.
    let G = g.W.RunSetting.setting c.args.out.now in
    let W = g.W.World.world c.args.out.now in
    let shown = g.W.World.shown in
    let body = view_statement c.args.body.now in
    let turn = while_turn G W (given_expression (option_copied c.args.test)) (statement_node body) (statement_run G W body) (discarded_run G W (given_expression (option_copied c.args.step))) in
    let s = c.begin_loop.new.state in
    let all : W.turns - 0 ≡ W.turns = omega arith in
    subst (λ (k : ℕ). Leaves shown (from shown (repeated k turn) s) v s now) all h

pub while_loop-loop-turn-preserved : goal.while_loop-loop-turn-preserved
while_loop-loop-turn-preserved g t c =
    λ v now h.
    let G = g.W.RunSetting.setting c.args.out.now in
    let W = g.W.World.world c.args.out.now in
    let shown = g.W.World.shown in
    let body = view_statement c.args.body.now in
    let turn = while_turn G W (given_expression (option_copied c.args.test)) (statement_node body) (statement_run G W body) (discarded_run G W (given_expression (option_copied c.args.step))) in
    let i = c.loop-turn._turn in
    let s = c.loop-turn.state in
    let below : i < W.turns = omega (arith, c.loop-turn-test.true, c.turns-turn-end.ensures) in
    let one : suc (W.turns - (i + 1)) ≡ W.turns - i = omega arith in
    c.loop-turn.invariant v now (subst (λ (k : ℕ). Leaves shown (from shown (repeated k turn) s) v s now) one
    (another_leaves turn (W.turns - (i + 1)) (turned_shown c.in_ok-flow.field-0) v s c.while_turn.new.state now (ap turned_shown c.in_default.is) c.in_ok-flow.ensures h))

pub while_loop-returns-in-Some : goal.while_loop-returns-in-Some
while_loop-returns-in-Some g t c =
    let G = g.W.RunSetting.setting c.args.out.now in
    let W = g.W.World.world c.args.out.now in
    let shown = g.W.World.shown in
    let body = view_statement c.args.body.now in
    let turn = while_turn G W (given_expression (option_copied c.args.test)) (statement_node body) (statement_run G W body) (discarded_run G W (given_expression (option_copied c.args.step))) in
    let i = c.loop-turn._turn in
    let s = c.loop-turn.state in
    let whole = view_statement c.args.whole.now in
    let s0 = c.args.state.now in
    let begun = c.begin_loop.new.state in
    let r = W.reset (statement_node whole) (assigned_in G (form_of whole)) s0.registers.items in
    let m = W.forget (forgotten_in G (form_of whole)) (shown s0.kept) in
    let v = flow_shown c.in-Some.flow in
    let s1 = c.while_turn.new.state in
    let below : i < W.turns = omega (arith, c.loop-turn-test.true, c.turns-turn-end.ensures) in
    let one : suc (W.turns - (i + 1)) ≡ W.turns - i = omega arith in
    begun_leaves (repeated W.turns turn) r m v s0 begun s1 c.begin_loop.ensures.registers c.begin_loop.ensures.kept c.begin_loop.ensures.cut c.begin_loop.ensures.entries c.begin_loop.ensures.most
    (c.loop-turn.invariant v s1 (subst (λ (k : ℕ). Leaves shown (from shown (repeated k turn) s) v s s1) one
    (ended_leaves turn (W.turns - (i + 1)) (turned_shown c.in_ok-flow.field-0) v s s1 (ap turned_shown c.in-Some.is) c.in_ok-flow.ensures)))

pub while_loop-returns : goal.while_loop-returns
while_loop-returns g t c =
    let G = g.W.RunSetting.setting c.args.out.now in
    let W = g.W.World.world c.args.out.now in
    let shown = g.W.World.shown in
    let body = view_statement c.args.body.now in
    let turn = while_turn G W (given_expression (option_copied c.args.test)) (statement_node body) (statement_run G W body) (discarded_run G W (given_expression (option_copied c.args.step))) in
    let i = c.loop-turn._turn in
    let s = c.loop-turn.state in
    let whole = view_statement c.args.whole.now in
    let s0 = c.args.state.now in
    let begun = c.begin_loop.new.state in
    let r = W.reset (statement_node whole) (assigned_in G (form_of whole)) s0.registers.items in
    let m = W.forget (forgotten_in G (form_of whole)) (shown s0.kept) in
    let s1 = c.end.new.self in
    let none : W.turns - i ≡ 0 = omega (arith, c.loop-turn-test.false, c.turns-turn-end.ensures) in
    begun_leaves (repeated W.turns turn) r m Return s0 begun s1 c.begin_loop.ensures.registers c.begin_loop.ensures.kept c.begin_loop.ensures.cut c.begin_loop.ensures.entries c.begin_loop.ensures.most
    (c.loop-turn.invariant Return s1 (spent_leaves turn (W.turns - i) Return s s1 none c.end.ensures))

pub while_turn-returns-in-None : goal.while_turn-returns-in-None
while_turn-returns-in-None g t c = rw c.in-None.is c.turned.ensures

pub while_turn-returns-then-is_true : goal.while_turn-returns-then-is_true
while_turn-returns-then-is_true g t c =
    let G = g.W.RunSetting.setting c.args.out.now in
    let W = g.W.World.world c.args.out.now in
    let shown = g.W.World.shown in
    let body = view_statement c.args.body.now in
    let turn = turned_body (statement_node body) (statement_run G W body) (discarded_run G W (given_expression (option_copied c.args.step))) in
    let e = view_expression c.in-Some.e.now in
    let s0 = c.args.state.now in
    let s1 = c.tested.new.state in
    let s2 = c.turned-then-is_true.new.state in
    rw c.in-Some.is
    (IfOk-weaker c.turned-then-is_true.result (λ v. Leaves shown (from shown turn s1) (turned_shown v) s1 s2) _
    (λ v h. tested_leaves (test_run shown G W e s0) turn (gives (Ended Normal)) c.in_ok-n-in-Some.n true (turned_shown v) s0 s1 s2 c.if-is_true.ensures c.in_ok-n-in-Some.ensures h)
    c.turned-then-is_true.ensures)

pub while_turn-returns-else-is_true : goal.while_turn-returns-else-is_true
while_turn-returns-else-is_true g t c =
    let G = g.W.RunSetting.setting c.args.out.now in
    let W = g.W.World.world c.args.out.now in
    let shown = g.W.World.shown in
    let body = view_statement c.args.body.now in
    let turn = turned_body (statement_node body) (statement_run G W body) (discarded_run G W (given_expression (option_copied c.args.step))) in
    let e = view_expression c.in-Some.e.now in
    let s0 = c.args.state.now in
    let s1 = c.tested.new.state in
    rw c.in-Some.is
    (tested_leaves (test_run shown G W e s0) turn (gives (Ended Normal)) c.in_ok-n-in-Some.n false (Ended Normal) s0 s1 s1 c.if-is_true.ensures c.in_ok-n-in-Some.ensures (value_leaves (Ended Normal) (Ended Normal) s1 refl))

pub turned-returns-in-Some : goal.turned-returns-in-Some
turned-returns-in-Some g t c =
    let G = g.W.RunSetting.setting c.args.out.now in
    let W = g.W.World.world c.args.out.now in
    let shown = g.W.World.shown in
    let body = view_statement c.args.body.now in
    let step = discarded_run G W (given_expression (option_copied c.args.step)) in
    let s0 = c.args.state.now in
    let flow = flow_shown c.in_ok-flow.flow in
    let some : Some (flow_shown c.in-Some.end) ≡ loop_end flow = sym (ap (option_map flow_shown) c.in-Some.is) ∙ c.loop_end.ensures in
    entered_ends (Enter (statement_node body) ∷ []) (from shown (statement_run G W body) s0) (λ r m. and_then (step r m) (λ flow. gives Another)) flow (flow_shown c.in-Some.end) s0 c.entered.new.state some c.in_ok-flow.ensures

pub turned-returns-in-None : goal.turned-returns-in-None
turned-returns-in-None g t c =
    let G = g.W.RunSetting.setting c.args.out.now in
    let W = g.W.World.world c.args.out.now in
    let shown = g.W.World.shown in
    let body = view_statement c.args.body.now in
    let step = discarded_run G W (given_expression (option_copied c.args.step)) in
    let s0 = c.args.state.now in
    let s1 = c.entered.new.state in
    let s2 = c.another.new.state in
    let flow = flow_shown c.in_ok-flow.flow in
    let none : None ≡ loop_end flow = sym (ap (option_map flow_shown) c.in-None.is) ∙ c.loop_end.ensures in
    IfOk-weaker c.another.result (λ v. Leaves shown (and_then (from shown step s1) (λ flow. gives Another)) (turned_shown v) s1 s2) _
    (λ v h. entered_goes_on (Enter (statement_node body) ∷ []) (from shown (statement_run G W body) s0) (λ r m. and_then (step r m) (λ flow. gives Another)) flow (turned_shown v) s0 s1 s2 none c.in_ok-flow.ensures h)
    c.another.ensures

pub do_loop-loop-turn-init : goal.do_loop-loop-turn-init
do_loop-loop-turn-init g t c =
    λ v now h.
    let G = g.W.RunSetting.setting c.args.out.now in
    let W = g.W.World.world c.args.out.now in
    let shown = g.W.World.shown in
    let body = view_statement c.args.body.now in
    let turn = do_turn G W (view_expression c.args.test.now) (statement_node body) (statement_run G W body) in
    let s = c.begin_loop.new.state in
    let all : W.turns - 0 ≡ W.turns = omega arith in
    subst (λ (k : ℕ). Leaves shown (from shown (repeated k turn) s) v s now) all h

pub do_loop-loop-turn-preserved : goal.do_loop-loop-turn-preserved
do_loop-loop-turn-preserved g t c =
    λ v now h.
    let G = g.W.RunSetting.setting c.args.out.now in
    let W = g.W.World.world c.args.out.now in
    let shown = g.W.World.shown in
    let body = view_statement c.args.body.now in
    let turn = do_turn G W (view_expression c.args.test.now) (statement_node body) (statement_run G W body) in
    let i = c.loop-turn._turn in
    let s = c.loop-turn.state in
    let below : i < W.turns = omega (arith, c.loop-turn-test.true, c.turns-turn-end.ensures) in
    let one : suc (W.turns - (i + 1)) ≡ W.turns - i = omega arith in
    c.loop-turn.invariant v now (subst (λ (k : ℕ). Leaves shown (from shown (repeated k turn) s) v s now) one
    (another_leaves turn (W.turns - (i + 1)) (turned_shown c.in_ok-flow.field-0) v s c.do_turn.new.state now (ap turned_shown c.in_default.is) c.in_ok-flow.ensures h))

pub do_loop-returns-in-Some : goal.do_loop-returns-in-Some
do_loop-returns-in-Some g t c =
    let G = g.W.RunSetting.setting c.args.out.now in
    let W = g.W.World.world c.args.out.now in
    let shown = g.W.World.shown in
    let body = view_statement c.args.body.now in
    let turn = do_turn G W (view_expression c.args.test.now) (statement_node body) (statement_run G W body) in
    let i = c.loop-turn._turn in
    let s = c.loop-turn.state in
    let whole = view_statement c.args.whole.now in
    let s0 = c.args.state.now in
    let begun = c.begin_loop.new.state in
    let r = W.reset (statement_node whole) (assigned_in G (form_of whole)) s0.registers.items in
    let m = W.forget (forgotten_in G (form_of whole)) (shown s0.kept) in
    let v = flow_shown c.in-Some.flow in
    let s1 = c.do_turn.new.state in
    let below : i < W.turns = omega (arith, c.loop-turn-test.true, c.turns-turn-end.ensures) in
    let one : suc (W.turns - (i + 1)) ≡ W.turns - i = omega arith in
    begun_leaves (repeated W.turns turn) r m v s0 begun s1 c.begin_loop.ensures.registers c.begin_loop.ensures.kept c.begin_loop.ensures.cut c.begin_loop.ensures.entries c.begin_loop.ensures.most
    (c.loop-turn.invariant v s1 (subst (λ (k : ℕ). Leaves shown (from shown (repeated k turn) s) v s s1) one
    (ended_leaves turn (W.turns - (i + 1)) (turned_shown c.in_ok-flow.field-0) v s s1 (ap turned_shown c.in-Some.is) c.in_ok-flow.ensures)))

pub do_loop-returns : goal.do_loop-returns
do_loop-returns g t c =
    let G = g.W.RunSetting.setting c.args.out.now in
    let W = g.W.World.world c.args.out.now in
    let shown = g.W.World.shown in
    let body = view_statement c.args.body.now in
    let turn = do_turn G W (view_expression c.args.test.now) (statement_node body) (statement_run G W body) in
    let i = c.loop-turn._turn in
    let s = c.loop-turn.state in
    let whole = view_statement c.args.whole.now in
    let s0 = c.args.state.now in
    let begun = c.begin_loop.new.state in
    let r = W.reset (statement_node whole) (assigned_in G (form_of whole)) s0.registers.items in
    let m = W.forget (forgotten_in G (form_of whole)) (shown s0.kept) in
    let s1 = c.end.new.self in
    let none : W.turns - i ≡ 0 = omega (arith, c.loop-turn-test.false, c.turns-turn-end.ensures) in
    begun_leaves (repeated W.turns turn) r m Return s0 begun s1 c.begin_loop.ensures.registers c.begin_loop.ensures.kept c.begin_loop.ensures.cut c.begin_loop.ensures.entries c.begin_loop.ensures.most
    (c.loop-turn.invariant Return s1 (spent_leaves turn (W.turns - i) Return s s1 none c.end.ensures))

pub do_turn-returns-in-Some : goal.do_turn-returns-in-Some
do_turn-returns-in-Some g t c =
    let G = g.W.RunSetting.setting c.args.out.now in
    let W = g.W.World.world c.args.out.now in
    let shown = g.W.World.shown in
    let body = view_statement c.args.body.now in
    let e = view_expression c.args.test.now in
    let s0 = c.args.state.now in
    let flow = flow_shown c.in_ok-flow.flow in
    let some : Some (flow_shown c.in-Some.end) ≡ loop_end flow = sym (ap (option_map flow_shown) c.in-Some.is) ∙ c.loop_end.ensures in
    entered_ends (Enter (statement_node body) ∷ []) (from shown (statement_run G W body) s0) (λ r m. and_then (test_of G W e r m) (λ x. gives (if truth x then Another else Ended Normal))) flow (flow_shown c.in-Some.end) s0 c.entered.new.state some c.in_ok-flow.ensures

pub do_turn-returns-in-None : goal.do_turn-returns-in-None
do_turn-returns-in-None g t c =
    let G = g.W.RunSetting.setting c.args.out.now in
    let W = g.W.World.world c.args.out.now in
    let shown = g.W.World.shown in
    let body = view_statement c.args.body.now in
    let e = view_expression c.args.test.now in
    let s0 = c.args.state.now in
    let s1 = c.entered.new.state in
    let s2 = c.repeats.new.state in
    let flow = flow_shown c.in_ok-flow.flow in
    let none : None ≡ loop_end flow = sym (ap (option_map flow_shown) c.in-None.is) ∙ c.loop_end.ensures in
    IfOk-weaker c.repeats.result (λ v. Leaves shown (and_then (from shown (test_of G W e) s1) (λ x. gives (if truth x then Another else Ended Normal))) (turned_shown v) s1 s2) _
    (λ v h. entered_goes_on (Enter (statement_node body) ∷ []) (from shown (statement_run G W body) s0) (λ r m. and_then (test_of G W e r m) (λ x. gives (if truth x then Another else Ended Normal))) flow (turned_shown v) s0 s1 s2 none c.in_ok-flow.ensures h)
    c.repeats.ensures

pub switch-returns-in-None : goal.switch-returns-in-None
switch-returns-in-None g t c =
    let G = g.W.RunSetting.setting c.args.out.now in
    let W = g.W.World.world c.args.out.now in
    let shown = g.W.World.shown in
    let e = view_expression c.args.e.now in
    let ss = sections (map view_section c.args.list.now) in
    let n = c.in_ok-number.number in
    let kind = promote (number_kind (type_in G.typing e)) in
    let kind_is : c.promote-kind.result ≡ kind = c.promote-kind.ensures ∙ ap promote (c.kind_at.ensures ∙ ap (λ k. number_kind (G.typing.type_at k)) c.node_of.ensures) in
    let none : None ≡ chosen G.typing kind (wrap kind n) ss = sym c.in-None.is ∙ c.chosen.ensures ∙ ap (λ (z : ℤ). chosen G.typing c.promote-kind.result z ss) c.to_kind.ensures ∙ ap (λ (u : IntKind). chosen G.typing u (wrap u n) ss) kind_is in
    let s0 = c.args.state.now in
    let s1 = c.value.new.state in
    then_leaves (value_run shown G W e s0) (λ x. from_chosen (chosen G.typing kind (wrap kind x) ss) (λ n r m. sections_run G W ss n r m)) n Normal s0 s1 s1 c.in_ok-number.ensures
    (subst (λ (o : Option ℕ). Leaves shown (from_chosen o (λ n r m. sections_run G W ss n r m) s1.registers.items (shown s1.kept)) Normal s1 s1) none (value_leaves Normal Normal s1 refl))

pub switch-returns-in_ok-flow-in-Some : goal.switch-returns-in_ok-flow-in-Some
switch-returns-in_ok-flow-in-Some g t c =
    let G = g.W.RunSetting.setting c.args.out.now in
    let W = g.W.World.world c.args.out.now in
    let shown = g.W.World.shown in
    let e = view_expression c.args.e.now in
    let ss = sections (map view_section c.args.list.now) in
    let n = c.in_ok-number.number in
    let first = c.in-Some.first in
    let kind = promote (number_kind (type_in G.typing e)) in
    let kind_is : c.promote-kind.result ≡ kind = c.promote-kind.ensures ∙ ap promote (c.kind_at.ensures ∙ ap (λ k. number_kind (G.typing.type_at k)) c.node_of.ensures) in
    let some : Some first ≡ chosen G.typing kind (wrap kind n) ss = sym c.in-Some.is ∙ c.chosen.ensures ∙ ap (λ (z : ℤ). chosen G.typing c.promote-kind.result z ss) c.to_kind.ensures ∙ ap (λ (u : IntKind). chosen G.typing u (wrap u n) ss) kind_is in
    let s0 = c.args.state.now in
    let s1 = c.value.new.state in
    let s2 = c.sections.new.state in
    let flow = flow_shown c.in_ok-flow-in-Some.flow in
    let v = flow_shown c.past_switch.result in
    let R = from shown (sections_run G W ss first) s1 in
    then_leaves (value_run shown G W e s0) (λ x. from_chosen (chosen G.typing kind (wrap kind x) ss) (λ n r m. sections_run G W ss n r m)) n v s0 s1 s2 c.in_ok-number.ensures
    (subst (λ (o : Option ℕ). Leaves shown (from_chosen o (λ n r m. sections_run G W ss n r m) s1.registers.items (shown s1.kept)) v s1 s2) some
    (same_leaves (left_switch R) (past_switch flow) v s1 s2 (sym c.past_switch.ensures) (left_leaves R flow s1 s2 c.in_ok-flow-in-Some.ensures)))

pub sections-loop-at-preserved : goal.sections-loop-at-preserved
sections-loop-at-preserved g t c =
    λ v now h.
    let G = g.W.RunSetting.setting c.args.out.now in
    let W = g.W.World.world c.args.out.now in
    let shown = g.W.World.shown in
    let list = c.args.list.now in
    let at = c.loop-at.at in
    let s = c.loop-at.state in
    let d = c.index-list-at.result in
    let below : at < length list = omega arith in
    let here = section_at G W list at d s.registers.items (shown s.kept) below c.index-list-at.is in
    c.loop-at.invariant v now (subst (λ (u : Ran Flow g.W.World.Shown). Leaves shown u v s now) (sym here)
    (next_leaves (from shown (section_run G W (view_section d)) s) (λ r m. sections_run G W (sections (map view_section list)) (at + 1) r m) (flow_shown c.in_ok-flow.flow) v s c.section.new.state now (sym c.is_normal.ensures ∙ c.if-not-is_normal.false) c.in_ok-flow.ensures h))

pub sections-returns-then-not-is_normal : goal.sections-returns-then-not-is_normal
sections-returns-then-not-is_normal g t c =
    let G = g.W.RunSetting.setting c.args.out.now in
    let W = g.W.World.world c.args.out.now in
    let shown = g.W.World.shown in
    let list = c.args.list.now in
    let at = c.loop-at.at in
    let s = c.loop-at.state in
    let d = c.index-list-at.result in
    let v = flow_shown c.in_ok-flow.flow in
    let below : at < length list = omega arith in
    let here = section_at G W list at d s.registers.items (shown s.kept) below c.index-list-at.is in
    c.loop-at.invariant v c.section.new.state (subst (λ (u : Ran Flow g.W.World.Shown). Leaves shown u v s c.section.new.state) (sym here)
    (stop_leaves (from shown (section_run G W (view_section d)) s) (λ r m. sections_run G W (sections (map view_section list)) (at + 1) r m) v s c.section.new.state (sym c.is_normal.ensures ∙ c.if-not-is_normal.true) c.in_ok-flow.ensures))

pub sections-returns : goal.sections-returns
sections-returns g t c =
    let G = g.W.RunSetting.setting c.args.out.now in
    let W = g.W.World.world c.args.out.now in
    let shown = g.W.World.shown in
    let list = c.args.list.now in
    let at = c.loop-at.at in
    let s = c.loop-at.state in
    let ends = sections_end G W list at s.registers.items (shown s.kept) (omega arith) in
    c.loop-at.invariant Normal s (subst (λ (u : Ran Flow g.W.World.Shown). Leaves shown u Normal s s) (sym ends) (value_leaves Normal Normal s refl))

pub statements-loop-s-preserved : goal.statements-loop-s-preserved
statements-loop-s-preserved g t c =
    λ v now h.
    let G = g.W.RunSetting.setting c.args.out.now in
    let W = g.W.World.world c.args.out.now in
    let shown = g.W.World.shown in
    let step = next_of c.args.list.now c.loop-s.s-index c.s-item.result c.loop-s-test.true c.s-item.is in
    let x = view_statement c.s-item.result in
    let xs = statements (map view_statement (drop (c.loop-s.s-index + 1) c.args.list.now)) in
    c.loop-s.invariant v now (rw step (next_leaves (from shown (statement_run G W x) c.loop-s.state) (λ r m. statements_run G W xs r m) (flow_shown c.in_ok-flow.flow) v c.loop-s.state c.statement.new.state now (sym c.is_normal.ensures ∙ c.if-not-is_normal.false) c.in_ok-flow.ensures h))

pub statements-returns-then-not-is_normal : goal.statements-returns-then-not-is_normal
statements-returns-then-not-is_normal g t c =
    let G = g.W.RunSetting.setting c.args.out.now in
    let W = g.W.World.world c.args.out.now in
    let shown = g.W.World.shown in
    let step = next_of c.args.list.now c.loop-s.s-index c.s-item.result c.loop-s-test.true c.s-item.is in
    let x = view_statement c.s-item.result in
    let xs = statements (map view_statement (drop (c.loop-s.s-index + 1) c.args.list.now)) in
    let v = flow_shown c.in_ok-flow.flow in
    c.loop-s.invariant v c.statement.new.state (rw step (stop_leaves (from shown (statement_run G W x) c.loop-s.state) (λ r m. statements_run G W xs r m) v c.loop-s.state c.statement.new.state (sym c.is_normal.ensures ∙ c.if-not-is_normal.true) c.in_ok-flow.ensures))

pub statements-returns : goal.statements-returns
statements-returns g t c =
    let none : drop c.loop-s.s-index c.args.list.now ≡ [] = drop_all c.loop-s.s-index c.args.list.now (omega arith) in
    c.loop-s.invariant Normal c.loop-s.state (rw none (value_leaves Normal Normal c.loop-s.state refl))

pub statement-block-requires : goal.statement-block-requires
statement-block-requires g t c κs within =
    let P = g.W.RunSetting.knows c.args.out.now in
    let each : EachLoopOfParts P (parts (map view_part c.as_slice.result.now)) = rw (at_block c.args.s.now c.in-Block.list c.in-Block.is, ← c.as_slice.ensures) at c.requires in
    let deep = in_block c.args.s.now c.in-Block.list c.in-Block.is in
    let same = ap (most part_size) c.as_slice.ensures in
    (omega (arith, deep, same, c.decreases), (search rules, (search rules, each)))

pub statement-entered-requires : goal.statement-entered-requires
statement-entered-requires g t c κs within =
    let P = g.W.RunSetting.knows c.args.out.now in
    let known : EachLoop P (view_statement c.in-If.x) × EachLoopOfOther P (maybe_statement (option_map view_statement c.in-If.other)) = rw (at_if_statement c.args.s.now c.in-If.e c.in-If.x c.in-If.other c.in-If.is) at c.requires in
    let each : EachLoop P (view_statement c.get.result.now) = rw c.get.ensures known.0 in
    let deep = in_if c.args.s.now c.in-If.e c.in-If.x c.in-If.other c.in-If.is in
    let same = ap the_size c.get.ensures in
    (omega (arith, deep, same, c.decreases), (search rules, (search rules, each)))

pub statement-otherwise-requires : goal.statement-otherwise-requires
statement-otherwise-requires g t c κs within =
    let P = g.W.RunSetting.knows c.args.out.now in
    let known : EachLoop P (view_statement c.in-If.x) × EachLoopOfOther P (maybe_statement (option_map view_statement c.in-If.other)) = rw (at_if_statement c.args.s.now c.in-If.e c.in-If.x c.in-If.other c.in-If.is) at c.requires in
    let each : EachLoopOfOther P (maybe_statement (option_map view_statement c.in-If.other)) = known.1 in
    let deep = in_other c.args.s.now c.in-If.e c.in-If.x c.in-If.other c.in-If.is in
    (omega (arith, deep, c.decreases), (search rules, (search rules, each)))

pub statement-switch-requires : goal.statement-switch-requires
statement-switch-requires g t c κs within =
    let P = g.W.RunSetting.knows c.args.out.now in
    let each : EachLoopOfSections P (sections (map view_section c.as_slice-in-Switch.result.now)) = rw (at_switch_statement c.args.s.now c.in-Switch.e c.in-Switch.list c.in-Switch.is, ← c.as_slice-in-Switch.ensures) at c.requires in
    let deep = in_switch c.args.s.now c.in-Switch.e c.in-Switch.list c.in-Switch.is in
    let same = ap (most section_size) c.as_slice-in-Switch.ensures in
    (omega (arith, deep, same, c.decreases), (search rules, (search rules, each)))

pub statement-while_loop-requires : goal.statement-while_loop-requires
statement-while_loop-requires g t c κs within =
    let P = g.W.RunSetting.knows c.args.out.now in
    let whole = view_statement c.args.s.now in
    let x = view_statement c.in-While.x in
    let is = at_while_statement c.args.s.now c.in-While.e c.in-While.x c.in-While.is in
    let known : P (out-Stmt c.args.s.now).node.number (s.while_statement (view_expression c.in-While.e) x) × EachLoop P x = rw is at c.requires in
    let here : P (statement_node whole) (form_of whole) = rw is known.0 in
    let each : EachLoop P (view_statement c.get-in-While.result.now) = rw c.get-in-While.ensures known.1 in
    let deep = in_while c.args.s.now c.in-While.e c.in-While.x c.in-While.is in
    let same = ap the_size c.get-in-While.ensures in
    (omega (arith, deep, same, c.decreases), (search rules, (search rules, (here, each))))

pub statement-do_loop-requires : goal.statement-do_loop-requires
statement-do_loop-requires g t c κs within =
    let P = g.W.RunSetting.knows c.args.out.now in
    let whole = view_statement c.args.s.now in
    let x = view_statement c.in-Do.x in
    let is = at_do_statement c.args.s.now c.in-Do.x c.in-Do.e c.in-Do.is in
    let known : P (out-Stmt c.args.s.now).node.number (s.do_statement x (view_expression c.in-Do.e)) × EachLoop P x = rw is at c.requires in
    let here : P (statement_node whole) (form_of whole) = rw is known.0 in
    let each : EachLoop P (view_statement c.get-in-Do.result.now) = rw c.get-in-Do.ensures known.1 in
    let deep = in_do c.args.s.now c.in-Do.x c.in-Do.e c.in-Do.is in
    let same = ap the_size c.get-in-Do.ensures in
    (omega (arith, deep, same, c.decreases), (search rules, (search rules, (here, each))))

pub statement-for_loop-requires : goal.statement-for_loop-requires
statement-for_loop-requires g t c κs within =
    let P = g.W.RunSetting.knows c.args.out.now in
    let whole = view_statement c.args.s.now in
    let x = view_statement c.in-For.x in
    let is = at_for_statement c.args.s.now c.in-For.first c.in-For.test c.in-For.step c.in-For.x c.in-For.is in
    let known : P (out-Stmt c.args.s.now).node.number (s.for_statement (view_start c.in-For.first) (given_expression c.in-For.test) (given_expression c.in-For.step) x) × EachLoop P x = rw is at c.requires in
    let here : P (statement_node whole) (form_of whole) = rw is known.0 in
    let each : EachLoop P (view_statement c.get-in-For.result.now) = rw c.get-in-For.ensures known.1 in
    let deep = in_for c.args.s.now c.in-For.first c.in-For.test c.in-For.step c.in-For.x c.in-For.is in
    let same = ap the_size c.get-in-For.ensures in
    (omega (arith, deep, same, c.decreases), (search rules, (search rules, (here, each))))

pub parts-part-requires : goal.parts-part-requires
parts-part-requires g t c κs within =
    let P = g.W.RunSetting.knows c.args.out.now in
    let each : EachLoopOfPart P (view_part c.p-item.result) = of_part P c.args.list.now c.loop-p.p-index c.p-item.result c.loop-p-test.true c.p-item.is c.requires in
    let deep = element_below part_size c.args.list.now c.loop-p.p-index c.p-item.result c.loop-p-test.true c.p-item.is in
    (omega (arith, deep, c.decreases), (search rules, (search rules, each)))

pub part-statement-requires : goal.part-statement-requires
part-statement-requires g t c κs within =
    let P = g.W.RunSetting.knows c.args.out.now in
    let each : EachLoop P (view_statement c.in-Run.s) = rw (at_run c.args.p.now c.in-Run.s c.in-Run.is) at c.requires in
    let deep = in_part c.args.p.now c.in-Run.s c.in-Run.is in
    (omega (arith, deep, c.decreases), (search rules, (search rules, each)))

pub sections-section-requires : goal.sections-section-requires
sections-section-requires g t c κs within =
    let P = g.W.RunSetting.knows c.args.out.now in
    let below : c.loop-at.at < length c.args.list.now = omega arith in
    let each : EachLoopOfSection P (view_section c.index-list-at.result) = of_section P c.args.list.now c.loop-at.at c.index-list-at.result below c.index-list-at.is c.requires in
    let deep = element_below section_size c.args.list.now c.loop-at.at c.index-list-at.result below c.index-list-at.is in
    (omega (arith, deep, c.decreases), (search rules, (search rules, each)))

pub section-statements-requires : goal.section-statements-requires
section-statements-requires g t c κs within =
    let P = g.W.RunSetting.knows c.args.out.now in
    let each : EachLoopOfStatements P (statements (map view_statement c.as_slice.result.now)) = rw (at_section c.args.x.now, ← c.as_slice.ensures) at c.requires in
    let deep = in_section c.args.x.now in
    let same = ap (most the_size) c.as_slice.ensures in
    (omega (arith, deep, same, c.decreases), (search rules, (search rules, each)))

pub statements-statement-requires : goal.statements-statement-requires
statements-statement-requires g t c κs within =
    let P = g.W.RunSetting.knows c.args.out.now in
    let each : EachLoop P (view_statement c.s-item.result) = of_statement P c.args.list.now c.loop-s.s-index c.s-item.result c.loop-s-test.true c.s-item.is c.requires in
    let deep = element_below the_size c.args.list.now c.loop-s.s-index c.s-item.result c.loop-s-test.true c.s-item.is in
    (omega (arith, deep, c.decreases), (search rules, (search rules, each)))

pub entered-returns : goal.entered-returns
entered-returns g t c =
    let G = g.W.RunSetting.setting c.args.out.now in
    let W = g.W.World.world c.args.out.now in
    let x = view_statement c.args.s.now in
    let s0 = c.args.state.now in
    let s1 = c.push.new.self in
    let s2 = c.statement.new.state in
    let adds = subst (λ (k : ℕ). Adds (Enter k ∷ []) s0 s1) (sym (ap statement_node (view_node c.args.s.now))) c.in_ok-push.ensures in
    after_leaves (Enter (statement_node x) ∷ []) (statement_run G W x) (flow_shown c.in_ok-flow.flow) s0 s1 s2 adds c.in_ok-flow.ensures

pub section-returns : goal.section-returns
section-returns g t c =
    let G = g.W.RunSetting.setting c.args.out.now in
    let W = g.W.World.world c.args.out.now in
    let body = statements (map view_statement c.as_slice.result.now) in
    let s0 = c.args.state.now in
    let s1 = c.push.new.self in
    let s2 = c.statements.new.state in
    rw (at_section c.args.x.now, ← c.as_slice.ensures)
    (after_leaves (Enter (out-Section c.args.x.now).node.number ∷ []) (statements_run G W body) (flow_shown c.in_ok-flow.flow) s0 s1 s2 c.in_ok-push.ensures c.in_ok-flow.ensures)

use Rattle.std.proofs.Common.{◌≡◌, ◌+◌, ◌<◌, ◌&&◌, ◌||◌, not, [], ◌∷◌, ◌++◌, true, false, Bool, List, length, drop, map, Option, None, ℕ, ℤ, refl, sym, ap, ◌∙◌, subst, append_assoc, arith, rules}
use Rattle.std.proofs.lemmas.List.{append-nil, drop_all}
use Rattle.std.specs.Prelude.{if◌then◌else◌, option_map}
use Rattle.std.specs.Option.{option_copied}
use denote.Param.Weighed.{most}
use Rattle.stk_ctype.specs.declared.kind.IntKind.{IntKind}
use Rattle.stk_ctype.specs.declared.kind.IntKind.TheVariants.{Int}
use Rattle.stk_tree.specs.declared.statement.Stmt.{out-Stmt}
use Rattle.stk_tree.specs.declared.statement.Section.{out-Section}
use Rattle.stk_tree.proofs.statement.Part.TheLaws.{the_size as part_size}
use Rattle.stk_tree.proofs.statement.Section.TheLaws.{the_size as section_size}
use Rattle.stk_tree.proofs.statement.Stmt.TheLaws.{the_size}
use Rattle.stk_tree.specs.Syntax as s
use Rattle.stk_tree.specs.View.{view_expression, given_expression, maybe_statement, view_statement, view_statement_form, statements, view_part, parts, view_section, sections, view_start}
use Rattle.stk_numbers.specs.declared.conditions.CandKind.TheVariants.{Arm}
use Rattle.stk_numbers.specs.Kinds.{wrap, promote}
use Rattle.stk_meaning.specs.declared.entry.Entry.TheVariants.{Enter}
use Rattle.stk_meaning.specs.Typings.{statement_node, number_kind, type_in}
use Rattle.stk_meaning.specs.Operations.{truth, bit}
use Rattle.stk_meaning.specs.Visits.{part_declares, parts_declare, start_declares}
use Rattle.stk_meaning.specs.Changes.{assigned_in, forgotten_in}
use Rattle.stk_meaning.specs.Worlds.{Ran, Flow, Turned, Normal, Another, Ended, entered, and_then, gives, again}
use Rattle.stk_meaning.specs.Paths.{KeptNumbers, path_world, reset_all, forgotten}
use Rattle.stk_meaning.specs.Expressions.{value_of, test_of}
use Rattle.stk_meaning.specs.Statements.{statement_run, otherwise_run, statements_run, parts_run, part_run, section_run, sections_run, start_run, turned_body, while_turn, do_turn, loop_run, discarded_run, chosen, from_chosen}
use Rattle.stk_kinded.specs.Kinds.{register_kind}
use Rattle.stk_kinded.specs.Kinded.{Kinded}
use Rattle.stk_kinded.specs.KindedStatements.{KindedMaybe, KindedStart, KindedStatement, KindedOther, KindedStatements, KindedBlock, KindedSections}
use Rattle.stk_eval_expr.specs.Loops.{EachLoop, EachLoopOfOther, EachLoopOfStatements, EachLoopOfParts, EachLoopOfPart, EachLoopOfSections, EachLoopOfSection}
use Rattle.stk_exec_stmt.specs.Ending.{form_of}
use Rattle.stk_exec_stmt.proofs.Depths.{element_below, in_section, in_part, in_block, in_switch, in_if, in_other, in_while, in_do, in_for}
use Rattle.stk_exec_stmt.proofs.EachLoops.{of_part, of_section, of_statement}
use Rattle.stk_exec_stmt.proofs.Flowing.{next_of}
use Rattle.stk_exec_stmt.proofs.StatementViews.{view_node, at_block, at_expression_statement, at_if_statement, at_switch_statement, at_while_statement, at_do_statement, at_for_statement, at_break_statement, at_continue_statement, at_return_statement, at_run, at_section}
use Rattle.stk_guarded.specs.Standing.{live, added, moved_to}
use Rattle.stk_guarded.specs.Statements.{Flows, given_back_to}
use Rattle.stk_guarded.specs.Turns.{opened, closed, no_more}
use Rattle.stk_guarded.specs.Sections.{begun, begins, is_first, behind_first, Falls}
use Rattle.stk_guarded.proofs.Statements.{then_flows, next_flows, after_flows, normal_flows, declares_flows, start_flows, empty_flows, scope_flows, either_flows}
use Rattle.stk_guarded.proofs.Turns.{turn_flows, tested_flows, moved_flows}
use Rattle.stk_guarded.proofs.Sections.{falls_next, falls_end}
use Rattle.stk_walking.specs.declared.state.Event.{Event}
use Rattle.stk_walking.specs.Events.{hit, events_in}
use Rattle.stk_walking.specs.ExpressionEvents.{value_events, tested_events}
use Rattle.stk_walking.specs.StatementEvents.{discarded_events, maybe_tested_events, start_events, statement_events, branch_events, otherwise_events, statements_events, parts_events, part_events, sections_events, section_events}
use Rattle.stk_walking.proofs.Carried.{keeps_none, keeps_then, is_made_still, is_made_guarded, stands_still}
use Rattle.stk_walking.proofs.Leading.{stands_guarded, unbroken}
use Rattle.stk_walk_statements.specs.Selected.{TestsMade, TestsShow, TestsLead, goes_if, is_none}
use Rattle.stk_walk_statements.proofs.Kinding.{kinded_part, kinded_section, kinded_statement}
use Rattle.stk_walk_statements.proofs.Saving.{saved_made, saved_shown, given_back_made, given_back_shown}
use Rattle.stk_walk_statements.proofs.Sectioning.{tests_made_still, tests_made_at, tests_still}
use Rattle.stk_walk_statements.proofs.Turning.{behind_entered, or_swapped, switched, chosen_flows, alone_behind}
use Rattle.stk_walk_statements.proofs.Views.{at_local, at_statement_node, at_statement_form}
use Rattle.stk_walk_statements.proofs.Walking.{events_then, events_behind, events_none, there_still, walked_none, walked_as, walked_then, walked_end}
use Rattle.stk_spending.specs.Statements.{parts_spent, statements_spent, sections_spent}
use Rattle.stk_walking.proofs.Costing.{costs_none, costs_then, one_completes, spent_all, costs_step, two_complete, costs_within, costs_only, costs_cells, costs_after, costs_still, costs_more, costs_on_ok}
use Rattle.stk_walk_statements.proofs.Spending.{none_more, none_before, five_regrouped, six_regrouped, tested_regrouped}
use Rattle.stk_walk_statements.proofs.statements.+statement.Goals as goal

-- ---- a statement, form by form

pub statement-returns-in-Block-clause-walked : goal.statement-returns-in-Block-clause-walked
statement-returns-in-Block-clause-walked g t c = rw (at_block c.args.s.now c.in-Block.list c.in-Block.is, ← c.as_slice.ensures) c.block.ensures.walked

pub statement-returns-in_ok-discarded-in-Plain-clause-walked : goal.statement-returns-in_ok-discarded-in-Plain-clause-walked
statement-returns-in_ok-discarded-in-Plain-clause-walked g t c =
    let V = g.V.Values in
    let G = g.O.RunSetting.setting c.args.out.now in
    let e = given_expression c.in-Plain.e in
    let part = rw c.as_ref.ensures.value at c.in_ok-discarded-in-Plain.ensures.walked in
    rw (at_expression_statement c.args.s.now c.in-Plain.e c.in-Plain.is)
    (walked_as V.serves V.has_key V.made V.shows G (discarded_events G e) _ _ c.args.values.now c.discarded.new.values c.args.state.now c.discarded.new.state
    (λ m s t h. normal_flows [] (discarded_run G (path_world (g.O.WalkSetting.under c.args.out.now m)) e s.numbers s.kept) s t h) part)

pub statement-returns-in_ok-join-in-If-clause-walked : goal.statement-returns-in_ok-join-in-If-clause-walked
statement-returns-in_ok-join-in-If-clause-walked g t c =
    let V = g.V.Values in
    let G = g.O.RunSetting.setting c.args.out.now in
    let e = view_expression c.in-If.e in
    let x = view_statement c.get.result.now in
    let y = maybe_statement (option_map view_statement c.in-If.other) in
    let x1 = c.in_ok-test-in-If.ensures in
    let b1 = c.in_ok-second-in-If.ensures in
    let y1 = c.in_ok-entered-in-If.ensures.walked in
    let z1 = c.in_ok-otherwise-in-If.ensures.walked in
    let j1 = c.in_ok-join-in-If.ensures in
    let w0 = events_in c.args.state.now.steps.items in
    let w2 = events_in c.begin_branch.new.state.steps.items in
    let w3 = events_in c.entered.new.state.steps.items in
    let w4 = events_in c.otherwise.new.state.steps.items in
    let T = tested_events G e in
    let B = branch_events G x in
    let O = otherwise_events G y in
    rw (at_if_statement c.args.s.now c.in-If.e c.in-If.x c.in-If.other c.in-If.is, ← c.get.ensures)
    (record {
      made = j1.made G z1.made;
      events = j1.events ∙ events_then w0 w2 w4 T (B ++ O) (b1.events ∙ x1.events) (events_then w2 w3 w4 B O y1.events z1.events);
      follows = λ m s served at.
          let W = path_world (g.O.WalkSetting.under c.args.out.now m) in
          let a = x1.follows m s served at in
          let d = truth a.number in
          let s1 = x1.keeps.served m served in
          let s2 = b1.keeps.served m s1 in
          let s3 = y1.keeps.served m s2 in
          let s4 = z1.keeps.served m s3 in
          let second = b1.other m a.standing.alive d s1 a.stands.guard a.value in
          let u = y1.follows m (live (a.standing.alive && d) a.standing) s2 (b1.stands G m a.standing d s1 a.value a.stands) in
          let at2 = stands_guarded (V.shows c.entered.new.values m) G c.entered.new.state u.standing c.in_ok-second-in-If.second (a.standing.alive && not d) u.stands (y1.keeps.shown m _ _ _ second) in
          let v = z1.follows m (live (a.standing.alive && not d) u.standing) s3 at2 in
          record {
            standing = live (u.standing.alive || v.standing.alive) v.standing;
            stands = j1.stands G m v.standing u.standing.alive s4 (z1.keeps.shown m _ _ _ u.stands.guard) v.stands;
            is = then_flows [] (test_of G W e s.numbers s.kept) (λ n r k. if truth n then entered (statement_node x) (statement_run G W x r k) else otherwise_run G W y r k) a.number s a.standing (live (u.standing.alive || v.standing.alive) v.standing) a.goes
                (either_flows d (λ r k. entered (statement_node x) (statement_run G W x r k)) (λ r k. otherwise_run G W y r k) a.standing u.standing v.standing u.is v.is);
          };
      keeps = keeps_then V.serves V.has_key V.made V.shows c.args.values.now c.otherwise.new.values c.join.new.values
          (keeps_then V.serves V.has_key V.made V.shows c.args.values.now c.entered.new.values c.otherwise.new.values
          (keeps_then V.serves V.has_key V.made V.shows c.args.values.now c.begin_branch.new.values c.entered.new.values
          (keeps_then V.serves V.has_key V.made V.shows c.args.values.now c.tested.new.values c.begin_branch.new.values x1.keeps b1.keeps) y1.keeps) z1.keeps) j1.keeps;
    })

pub statement-returns-in-Switch-clause-walked : goal.statement-returns-in-Switch-clause-walked
statement-returns-in-Switch-clause-walked g t c = rw (at_switch_statement c.args.s.now c.in-Switch.e c.in-Switch.list c.in-Switch.is, ← c.as_slice-in-Switch.ensures) c.switch.ensures.walked

pub statement-returns-in_ok-while_loop-in-While-clause-walked : goal.statement-returns-in_ok-while_loop-in-While-clause-walked
statement-returns-in_ok-while_loop-in-While-clause-walked g t c =
    let V = g.V.Values in
    let G = g.O.RunSetting.setting c.args.out.now in
    let e = view_expression c.in-While.e in
    let x = view_statement c.in-While.x in
    let is = at_while_statement c.args.s.now c.in-While.e c.in-While.x c.in-While.is in
    let left = rw (is, c.get-in-While.ensures) at c.in_ok-while_loop-in-While.ensures.walked in
    rw is
    (walked_end V.serves V.has_key V.made V.shows G (tested_events G e ++ (branch_events G x ++ [])) (tested_events G e ++ branch_events G x) _ _ c.args.values.now c.while_loop.new.values c.args.state.now c.while_loop.new.state
    (append-nil (tested_events G e ++ (branch_events G x ++ [])) ∙ ap (λ z. tested_events G e ++ z) (append-nil (branch_events G x))) (λ m s t h. h) left)

pub statement-returns-in-Do-clause-walked : goal.statement-returns-in-Do-clause-walked
statement-returns-in-Do-clause-walked g t c =
    let is = at_do_statement c.args.s.now c.in-Do.x c.in-Do.e c.in-Do.is in
    let left = rw (is, c.get-in-Do.ensures) at c.do_loop.ensures.walked in
    rw is left

pub statement-returns-in-For-clause-walked : goal.statement-returns-in-For-clause-walked
statement-returns-in-For-clause-walked g t c =
    let is = at_for_statement c.args.s.now c.in-For.first c.in-For.test c.in-For.step c.in-For.x c.in-For.is in
    let left = rw (is, c.get-in-For.ensures, c.as_ref-test.ensures.value, c.as_ref-in-For.ensures.value) at c.for_loop.ensures.walked in
    rw is left

pub statement-returns-in_ok-leave_by_break-in-Break-clause-walked : goal.statement-returns-in_ok-leave_by_break-in-Break-clause-walked
statement-returns-in_ok-leave_by_break-in-Break-clause-walked g t c =
    let G = g.O.RunSetting.setting c.args.out.now in
    let x1 = c.in_ok-leave_by_break-in-Break.ensures in
    rw (at_break_statement c.args.s.now c.in-Break.is)
    (record {
      made = x1.made G c.requires.made;
      events = events_none (events_in c.args.state.now.steps.items) (events_in c.leave_by_break.new.state.steps.items) x1.events;
      follows = λ m s served at. let a = x1.follows G m s served at in record { standing = a.standing; stands = a.stands; is = a.flows };
      keeps = x1.keeps;
    })

pub statement-returns-in_ok-leave_by_continue-in-Continue-clause-walked : goal.statement-returns-in_ok-leave_by_continue-in-Continue-clause-walked
statement-returns-in_ok-leave_by_continue-in-Continue-clause-walked g t c =
    let G = g.O.RunSetting.setting c.args.out.now in
    let x1 = c.in_ok-leave_by_continue-in-Continue.ensures in
    rw (at_continue_statement c.args.s.now c.in-Continue.is)
    (record {
      made = x1.made G c.requires.made;
      events = events_none (events_in c.args.state.now.steps.items) (events_in c.leave_by_continue.new.state.steps.items) x1.events;
      follows = λ m s served at. let a = x1.follows G m s served at in record { standing = a.standing; stands = a.stands; is = a.flows };
      keeps = x1.keeps;
    })

pub statement-returns-in-Return-clause-walked : goal.statement-returns-in-Return-clause-walked
statement-returns-in-Return-clause-walked g t c = rw (at_return_statement c.args.s.now c.in-Return.e c.in-Return.is, ← c.as_ref-in-Return.ensures.value) c.returned.ensures.walked

-- ---- branches

pub entered-returns-clause-walked : goal.entered-returns-clause-walked
entered-returns-clause-walked g t c =
    let V = g.V.Values in
    let G = g.O.RunSetting.setting c.args.out.now in
    let k = (out-Stmt c.args.s.now).node.number in
    let x = view_statement c.args.s.now in
    let e1 = c.in_ok-enter.ensures in
    let y1 = c.in_ok-statement.ensures.walked in
    rw (at_statement_node c.args.s.now)
    (record {
      made = y1.made;
      events = events_then (events_in c.args.state.now.steps.items) (events_in c.enter.new.state.steps.items) (events_in c.statement.new.state.steps.items) (hit k Arm ∷ []) (statement_events G x) e1.events y1.events;
      follows = λ m s served at.
          let W = path_world (g.O.WalkSetting.under c.args.out.now m) in
          let a = y1.follows m (added (Enter k ∷ []) s) served (e1.stands G m s at) in
          record { standing = a.standing; stands = a.stands; is = after_flows [] (Enter k ∷ []) (λ r i. statement_run G W x r i) s a.standing a.is };
      keeps = y1.keeps;
    })

pub otherwise-returns-in-None-clause-walked : goal.otherwise-returns-in-None-clause-walked
otherwise-returns-in-None-clause-walked g t c =
    let V = g.V.Values in
    let G = g.O.RunSetting.setting c.args.out.now in
    rw c.in-None.is (walked_none V.serves V.has_key V.made V.shows G _ c.args.values.now c.args.state.now c.requires.made (λ m s. empty_flows s))

-- ---- blocks

pub block-returns-clause-walked : goal.block-returns-clause-walked
block-returns-clause-walked g t c =
    let V = g.V.Values in
    let G = g.O.RunSetting.setting c.args.out.now in
    let row = register_kind G in
    let ps = parts (map view_part c.args.list.now) in
    let ks = parts_declare ps in
    let saved = c.in_ok-saved.saved.items in
    let v1 = c.in_ok-saved.ensures in
    let p1 = c.in_ok-parts.ensures.walked in
    let now = c.parts.new.values in
    record {
      made = record {
        guard = p1.made.guard;
        broken = p1.made.broken;
        continued = p1.made.continued;
        registers = rw c.give_back.ensures (given_back_made row (V.made now) saved c.parts.new.state.registers.items (saved_made row (V.made c.saved_parts.new.values) (V.made now) p1.keeps.made_still saved v1.made) p1.made.registers);
        cells = p1.made.cells;
        steps = p1.made.steps;
      };
      events = p1.events;
      follows = λ m s served at.
          let W = path_world (g.O.WalkSetting.under c.args.out.now m) in
          let before = stands_still (V.shows c.args.values.now m) (V.shows c.saved_parts.new.values m) (v1.keeps.shown m) G c.args.state.now s at in
          let a = p1.follows m s (v1.keeps.served m served) before in
          let old = saved_shown row (V.shows c.saved_parts.new.values m) (V.shows now m) (p1.keeps.shown m) saved ks s.numbers (v1.shown m s.numbers served at.numbers) in
          record {
            standing = given_back_to ks s.numbers a.standing;
            stands = record {
              guard = a.stands.guard;
              broken = a.stands.broken;
              continued = a.stands.continued;
              numbers = rw c.give_back.ensures (given_back_shown row (V.shows now m) saved ks c.parts.new.state.registers.items s.numbers a.standing.numbers old a.stands.numbers);
              kept = a.stands.kept;
              events = a.stands.events;
            };
            is = scope_flows ks (parts_run G W ps s.numbers s.kept) s a.standing a.is;
          };
      keeps = keeps_then V.serves V.has_key V.made V.shows c.args.values.now c.saved_parts.new.values now v1.keeps p1.keeps;
    }

pub parts-loop-p-init : goal.parts-loop-p-init
parts-loop-p-init g t c =
    let V = g.V.Values in
    ([], refl, walked_none V.serves V.has_key V.made V.shows (g.O.RunSetting.setting c.args.out.now) _ c.args.values.now c.args.state.now c.requires.made (λ m s u h. h), record { so_far = 0; costs = costs_none; completes = omega arith })

pub parts-loop-p-preserved : goal.parts-loop-p-preserved
parts-loop-p-preserved g t c =
    let V = g.V.Values in
    let G = g.O.RunSetting.setting c.args.out.now in
    let list = c.args.list.now in
    let i = c.loop-p.p-index in
    let so_far = c.loop-p.invariant in
    let step = next_of list i c.p-item.result c.loop-p-test.true c.p-item.is in
    let p = view_part c.p-item.result in
    let ps = parts (map view_part (drop (i + 1) list)) in
    let es : List Event = so_far.0 in
    let whole : es ++ parts_events G (parts (map view_part (c.p-item.result ∷ drop (i + 1) list))) ≡ parts_events G (parts (map view_part list)) = rw step at so_far.1 in
    let spent = so_far.3 in
    let completes : spent.so_far + parts_spent G (parts (map view_part (c.p-item.result ∷ drop (i + 1) list))) ≡ parts_spent G (parts (map view_part list)) = rw step at spent.completes in (
      es ++ part_events G p,
      append_assoc es (part_events G p) (parts_events G ps) ∙ whole,
      walked_then V.serves V.has_key V.made V.shows G es (part_events G p) _ _ _ c.args.values.now c.loop-p.values c.part.new.values c.args.state.now c.loop-p.state c.part.new.state
          (λ m s t u x y. λ v h.
          let W = path_world (g.O.WalkSetting.under c.args.out.now m) in
          x v (rw step (next_flows (part_declares p) (parts_declare ps) (part_run G W p t.numbers t.kept) (λ r k. parts_run G W ps r k) t u v y h)))
          so_far.2 c.in_ok-part.ensures.walked,
      record { so_far = _; costs = costs_then spent.costs c.in_ok-part.ensures.cost; completes = one_completes _ _ _ _ completes },
    )

pub parts-returns-clause-walked : goal.parts-returns-clause-walked
parts-returns-clause-walked g t c =
    let V = g.V.Values in
    let G = g.O.RunSetting.setting c.args.out.now in
    let list = c.args.list.now in
    let so_far = c.loop-p.invariant in
    let none : drop c.loop-p.p-index list ≡ [] = drop_all c.loop-p.p-index list (omega arith) in
    let es : List Event = so_far.0 in
    let all = parts_events G (parts (map view_part list)) in
    let whole : es ++ [] ≡ all = rw none at so_far.1 in
    walked_end V.serves V.has_key V.made V.shows G es all _ _ c.args.values.now c.loop-p.values c.args.state.now c.loop-p.state whole
    (λ m s t p. p t (rw none (empty_flows t))) so_far.2

pub part-returns-in_ok-declaration-in-Local-clause-walked : goal.part-returns-in_ok-declaration-in-Local-clause-walked
part-returns-in_ok-declaration-in-Local-clause-walked g t c =
    let V = g.V.Values in
    let G = g.O.RunSetting.setting c.args.out.now in
    rw (at_local c.args.p.now c.in-Local.d c.in-Local.is)
    (walked_as V.serves V.has_key V.made V.shows G _ _ _ c.args.values.now c.declaration.new.values c.args.state.now c.declaration.new.state (λ m s t h. declares_flows _ _ s t h) c.in_ok-declaration-in-Local.ensures.walked)

pub part-returns-in-Run-clause-walked : goal.part-returns-in-Run-clause-walked
part-returns-in-Run-clause-walked g t c = rw (at_run c.args.p.now c.in-Run.s c.in-Run.is) c.statement.ensures.walked

-- ---- loops

pub for_loop-returns-clause-walked : goal.for_loop-returns-clause-walked
for_loop-returns-clause-walked g t c =
    let V = g.V.Values in
    let G = g.O.RunSetting.setting c.args.out.now in
    let row = register_kind G in
    let first = view_start c.args.first.now in
    let test = given_expression (option_copied c.args.test) in
    let step = given_expression (option_copied c.args.step) in
    let whole = view_statement c.args.whole.now in
    let body = view_statement c.args.body.now in
    let ks = start_declares first in
    let saved = c.in_ok-saved.saved.items in
    let v1 = c.in_ok-saved.ensures in
    let p1 = c.in_ok-start.ensures.walked in
    let l1 = c.in_ok-while_loop.ensures.walked in
    let now = c.while_loop.new.values in
    let k1 = keeps_then V.serves V.has_key V.made V.shows c.saved_start.new.values c.start.new.values now p1.keeps l1.keeps in
    record {
      made = record {
        guard = l1.made.guard;
        broken = l1.made.broken;
        continued = l1.made.continued;
        registers = rw c.give_back.ensures (given_back_made row (V.made now) saved c.while_loop.new.state.registers.items (saved_made row (V.made c.saved_start.new.values) (V.made now) k1.made_still saved v1.made) l1.made.registers);
        cells = l1.made.cells;
        steps = l1.made.steps;
      };
      events = events_then (events_in c.args.state.now.steps.items) (events_in c.start.new.state.steps.items) (events_in c.while_loop.new.state.steps.items) (start_events G first) (maybe_tested_events G test ++ (branch_events G body ++ discarded_events G step)) p1.events l1.events;
      follows = λ m s served at.
          let W = path_world (g.O.WalkSetting.under c.args.out.now m) in
          let before = stands_still (V.shows c.args.values.now m) (V.shows c.saved_start.new.values m) (v1.keeps.shown m) G c.args.state.now s at in
          let s1 = v1.keeps.served m served in
          let a = p1.follows m s s1 before in
          let b = l1.follows m a.standing (p1.keeps.served m s1) a.stands in
          let old = saved_shown row (V.shows c.saved_start.new.values m) (V.shows now m) (k1.shown m) saved ks s.numbers (v1.shown m s.numbers served at.numbers) in
          let turn = while_turn G W test (statement_node body) (statement_run G W body) (discarded_run G W step) in
          let R = and_then (start_run G W first s.numbers s.kept) (λ flow. loop_run G W (statement_node whole) (form_of whole) turn) in
          let both = start_flows ks [] (start_run G W first s.numbers s.kept) (λ flow. loop_run G W (statement_node whole) (form_of whole) turn) Normal s a.standing b.standing a.is b.is in
          let flows = subst (λ (js : List ℕ). Flows js R s b.standing) (append-nil ks) both in
          record {
            standing = given_back_to ks s.numbers b.standing;
            stands = record {
              guard = b.stands.guard;
              broken = b.stands.broken;
              continued = b.stands.continued;
              numbers = rw c.give_back.ensures (given_back_shown row (V.shows now m) saved ks c.while_loop.new.state.registers.items s.numbers b.standing.numbers old b.stands.numbers);
              kept = b.stands.kept;
              events = b.stands.events;
            };
            is = scope_flows ks R s b.standing flows;
          };
      keeps = keeps_then V.serves V.has_key V.made V.shows c.args.values.now c.saved_start.new.values now v1.keeps k1;
    }

pub while_loop-begin_loop-requires-clause-known : goal.while_loop-begin_loop-requires-clause-known
while_loop-begin_loop-requires-clause-known g t c = rw (view_node c.args.whole.now) at c.requires.whole

pub while_loop-returns-clause-walked : goal.while_loop-returns-clause-walked
while_loop-returns-clause-walked g t c =
    let V = g.V.Values in
    let G = g.O.RunSetting.setting c.args.out.now in
    let test = given_expression (option_copied c.args.test) in
    let step = given_expression (option_copied c.args.step) in
    let node = (out-Stmt c.args.whole.now).node.number in
    let form = view_statement_form (out-Stmt c.args.whole.now).form in
    let body = view_statement c.args.body.now in
    let b1 = c.in_ok-begin_loop.ensures in
    let t1 = c.in_ok-while_turn.ensures.walked in
    rw (at_statement_node c.args.whole.now, at_statement_form c.args.whole.now)
    (record {
      made = t1.made;
      events = events_behind (events_in c.args.state.now.steps.items) (events_in c.begin_loop.new.state.steps.items) (events_in c.while_turn.new.state.steps.items) (maybe_tested_events G test ++ (branch_events G body ++ discarded_events G step)) b1.events t1.events;
      follows = λ m s served at.
          let I = g.O.WalkSetting.under c.args.out.now m in
          let W = path_world I in
          let r = reset_all I node (assigned_in G form) s.numbers in
          let k = forgotten (forgotten_in G form) s.kept in
          let a = t1.follows m (moved_to r k s) (b1.keeps.served m served) (b1.stands m s served at) in
          let turn = while_turn G W test (statement_node body) (statement_run G W body) (discarded_run G W step) in
          record { standing = a.standing; stands = a.stands; is = moved_flows (λ r k. again (turn r k) no_more) r k s a.standing a.is };
      keeps = keeps_then V.serves V.has_key V.made V.shows c.args.values.now c.begin_loop.new.values c.while_turn.new.values b1.keeps t1.keeps;
    })

pub while_turn-returns-in-None-clause-walked : goal.while_turn-returns-in-None-clause-walked
while_turn-returns-in-None-clause-walked g t c = rw c.in-None.is c.turn.ensures.walked

pub while_turn-returns-in_ok-join-in-Some-clause-walked : goal.while_turn-returns-in_ok-join-in-Some-clause-walked
while_turn-returns-in_ok-join-in-Some-clause-walked g t c =
    let V = g.V.Values in
    let G = g.O.RunSetting.setting c.args.out.now in
    let e = view_expression c.in-Some.e.now in
    let step = given_expression (option_copied c.args.step) in
    let body = view_statement c.args.body.now in
    let x1 = c.in_ok-test-in-Some.ensures in
    let b1 = c.in_ok-past-in-Some.ensures in
    let t1 = c.in_ok-turn-in-Some.ensures.walked in
    let j1 = c.in_ok-join-in-Some.ensures in
    rw c.in-Some.is
    (record {
      made = j1.made G t1.made;
      events = j1.events ∙ events_then (events_in c.args.state.now.steps.items) (events_in c.begin_branch.new.state.steps.items) (events_in c.turn-in-Some.new.state.steps.items) (tested_events G e) (branch_events G body ++ discarded_events G step) (b1.events ∙ x1.events) t1.events;
      follows = λ m s served at.
          let W = path_world (g.O.WalkSetting.under c.args.out.now m) in
          let a = x1.follows m s served at in
          let d = truth a.number in
          let s1 = x1.keeps.served m served in
          let s2 = b1.keeps.served m s1 in
          let s3 = t1.keeps.served m s2 in
          let past = b1.other m a.standing.alive d s1 a.stands.guard a.value in
          let u = t1.follows m (live (a.standing.alive && d) a.standing) s2 (b1.stands G m a.standing d s1 a.value a.stands) in
          let turn = turned_body (statement_node body) (statement_run G W body) (discarded_run G W step) in
          record {
            standing = live ((a.standing.alive && not d) || u.standing.alive) u.standing;
            stands = j1.stands G m u.standing (a.standing.alive && not d) s3 (t1.keeps.shown m _ _ _ past) u.stands;
            is = tested_flows (test_of G W e s.numbers s.kept) truth turn a.number s a.standing u.standing a.goes u.is;
          };
      keeps = keeps_then V.serves V.has_key V.made V.shows c.args.values.now c.turn-in-Some.new.values c.join.new.values
          (keeps_then V.serves V.has_key V.made V.shows c.args.values.now c.begin_branch.new.values c.turn-in-Some.new.values
          (keeps_then V.serves V.has_key V.made V.shows c.args.values.now c.tested.new.values c.begin_branch.new.values x1.keeps b1.keeps) t1.keeps) j1.keeps;
    })

pub turn-returns-clause-walked : goal.turn-returns-clause-walked
turn-returns-clause-walked g t c =
    let V = g.V.Values in
    let G = g.O.RunSetting.setting c.args.out.now in
    let step = given_expression (option_copied c.args.step) in
    let body = view_statement c.args.body.now in
    let o1 = c.in_ok-open_body.ensures in
    let y1 = c.in_ok-entered.ensures.walked in
    let p1 = c.in_ok-pass_body.ensures in
    let d1 = c.in_ok-discarded.ensures.walked in
    let k1 = keeps_then V.serves V.has_key V.made V.shows c.args.values.now c.pass_body.new.values c.discarded.new.values
    (keeps_then V.serves V.has_key V.made V.shows c.args.values.now c.entered.new.values c.pass_body.new.values
    (keeps_then V.serves V.has_key V.made V.shows c.args.values.now c.open_body.new.values c.entered.new.values o1.keeps y1.keeps) p1.keeps) d1.keeps in
    record {
      made = record {
        guard = d1.made.broken;
        broken = k1.made_still _ _ c.requires.made.broken;
        continued = k1.made_still _ _ c.requires.made.continued;
        registers = d1.made.registers;
        cells = d1.made.cells;
        steps = d1.made.steps;
      };
      events = events_then (events_in c.args.state.now.steps.items) (events_in c.pass_body.new.state.steps.items) (events_in c.discarded.new.state.steps.items) (branch_events G body) (discarded_events G step)
          (p1.events ∙ events_behind (events_in c.args.state.now.steps.items) (events_in c.open_body.new.state.steps.items) (events_in c.entered.new.state.steps.items) (branch_events G body) o1.events y1.events) d1.events;
      follows = λ m s served at.
          let W = path_world (g.O.WalkSetting.under c.args.out.now m) in
          let s1 = o1.keeps.served m served in
          let s2 = y1.keeps.served m s1 in
          let s3 = p1.keeps.served m s2 in
          let a = y1.follows m (opened s) s1 (o1.stands G m s served at) in
          let d = d1.follows m (live (a.standing.alive || a.standing.continued) a.standing) s3 (p1.stands G m a.standing s2 a.stands) in
          let now = V.shows c.discarded.new.values m in
          let next : List ℤ → KeptNumbers → Ran Turned KeptNumbers = λ r k. and_then (discarded_run G W step r k) (λ (flow : Flow). gives Another) in
          let flows = turn_flows (λ (x : Flow). true) (λ r k. discarded_run G W step r k) (λ r k. entered (statement_node body) (statement_run G W body r k)) Normal s a.standing d.standing a.is d.is in
          record {
            standing = closed ((d.standing.alive && not true) || d.standing.broken) s d.standing;
            stands = record {
              guard = subst (λ (z : Bool). now Int c.discarded.new.state.broken (bit z)) (sym (unbroken d.standing.alive d.standing.broken)) d.stands.broken;
              broken = k1.shown m _ _ _ at.broken;
              continued = k1.shown m _ _ _ at.continued;
              numbers = d.stands.numbers;
              kept = d.stands.kept;
              events = d.stands.events;
            };
            is = subst (λ (z : Ran Turned KeptNumbers). Flows [] (again z no_more) s (closed ((d.standing.alive && not true) || d.standing.broken) s d.standing)) (behind_entered (Enter (statement_node body) ∷ []) (statement_run G W body s.numbers s.kept) next) flows;
          };
      keeps = k1;
    }

pub do_loop-begin_loop-requires-clause-known : goal.do_loop-begin_loop-requires-clause-known
do_loop-begin_loop-requires-clause-known g t c = rw (view_node c.args.whole.now) at c.requires.whole

pub do_loop-returns-clause-walked : goal.do_loop-returns-clause-walked
do_loop-returns-clause-walked g t c =
    let V = g.V.Values in
    let G = g.O.RunSetting.setting c.args.out.now in
    let e = view_expression c.args.test.now in
    let node = (out-Stmt c.args.whole.now).node.number in
    let form = view_statement_form (out-Stmt c.args.whole.now).form in
    let body = view_statement c.args.body.now in
    let b1 = c.in_ok-begin_loop.ensures in
    let t1 = c.in_ok-do_turn.ensures.walked in
    rw (at_statement_node c.args.whole.now, at_statement_form c.args.whole.now)
    (record {
      made = t1.made;
      events = events_behind (events_in c.args.state.now.steps.items) (events_in c.begin_loop.new.state.steps.items) (events_in c.do_turn.new.state.steps.items) (branch_events G body ++ tested_events G e) b1.events t1.events;
      follows = λ m s served at.
          let I = g.O.WalkSetting.under c.args.out.now m in
          let W = path_world I in
          let r = reset_all I node (assigned_in G form) s.numbers in
          let k = forgotten (forgotten_in G form) s.kept in
          let a = t1.follows m (moved_to r k s) (b1.keeps.served m served) (b1.stands m s served at) in
          let turn = do_turn G W e (statement_node body) (statement_run G W body) in
          record { standing = a.standing; stands = a.stands; is = moved_flows (λ r k. again (turn r k) no_more) r k s a.standing a.is };
      keeps = keeps_then V.serves V.has_key V.made V.shows c.args.values.now c.begin_loop.new.values c.do_turn.new.values b1.keeps t1.keeps;
    })

pub do_turn-returns-clause-walked : goal.do_turn-returns-clause-walked
do_turn-returns-clause-walked g t c =
    let V = g.V.Values in
    let G = g.O.RunSetting.setting c.args.out.now in
    let e = view_expression c.args.test.now in
    let body = view_statement c.args.body.now in
    let o1 = c.in_ok-open_body.ensures in
    let y1 = c.in_ok-entered.ensures.walked in
    let p1 = c.in_ok-pass_body.ensures in
    let x1 = c.in_ok-test.ensures in
    let e1 = c.in_ok-pass_test.ensures in
    let k1 = keeps_then V.serves V.has_key V.made V.shows c.args.values.now c.tested.new.values c.pass_test.new.values
    (keeps_then V.serves V.has_key V.made V.shows c.args.values.now c.pass_body.new.values c.tested.new.values
    (keeps_then V.serves V.has_key V.made V.shows c.args.values.now c.entered.new.values c.pass_body.new.values
    (keeps_then V.serves V.has_key V.made V.shows c.args.values.now c.open_body.new.values c.entered.new.values o1.keeps y1.keeps) p1.keeps) x1.keeps) e1.keeps in
    let made = e1.made G x1.made in
    record {
      made = record {
        guard = made.guard;
        broken = k1.made_still _ _ c.requires.made.broken;
        continued = k1.made_still _ _ c.requires.made.continued;
        registers = made.registers;
        cells = made.cells;
        steps = made.steps;
      };
      events = e1.events ∙ events_then (events_in c.args.state.now.steps.items) (events_in c.pass_body.new.state.steps.items) (events_in c.tested.new.state.steps.items) (branch_events G body) (tested_events G e)
          (p1.events ∙ events_behind (events_in c.args.state.now.steps.items) (events_in c.open_body.new.state.steps.items) (events_in c.entered.new.state.steps.items) (branch_events G body) o1.events y1.events) x1.events;
      follows = λ m s served at.
          let W = path_world (g.O.WalkSetting.under c.args.out.now m) in
          let s1 = o1.keeps.served m served in
          let s2 = y1.keeps.served m s1 in
          let s3 = p1.keeps.served m s2 in
          let s4 = x1.keeps.served m s3 in
          let a = y1.follows m (opened s) s1 (o1.stands G m s served at) in
          let d = x1.follows m (live (a.standing.alive || a.standing.continued) a.standing) s3 (p1.stands G m a.standing s2 a.stands) in
          let z = e1.stands G m d.standing (truth d.number) s4 d.value d.stands in
          let next : List ℤ → KeptNumbers → Ran Turned KeptNumbers = λ r k. and_then (test_of G W e r k) (λ (x : ℤ). gives (if truth x then Another else Ended Normal)) in
          let flows = turn_flows truth (λ r k. test_of G W e r k) (λ r k. entered (statement_node body) (statement_run G W body r k)) d.number s a.standing d.standing a.is d.goes in
          record {
            standing = closed ((d.standing.alive && not (truth d.number)) || d.standing.broken) s d.standing;
            stands = record {
              guard = z.guard;
              broken = k1.shown m _ _ _ at.broken;
              continued = k1.shown m _ _ _ at.continued;
              numbers = z.numbers;
              kept = z.kept;
              events = z.events;
            };
            is = subst (λ (z : Ran Turned KeptNumbers). Flows [] (again z no_more) s (closed ((d.standing.alive && not (truth d.number)) || d.standing.broken) s d.standing)) (behind_entered (Enter (statement_node body) ∷ []) (statement_run G W body s.numbers s.kept) next) flows;
          };
      keeps = k1;
    }

-- ---- a `switch`

pub switch-converted-requires : goal.switch-converted-requires
switch-converted-requires g t c =
    let G = g.O.RunSetting.setting c.args.out.now in
    let e = view_expression c.args.e.now in
    let own : c.kind_at-own.result ≡ number_kind (type_in G.typing e) = c.kind_at-own.ensures ∙ ap (λ k. number_kind (G.typing.type_at k)) c.node_of.ensures in
    subst (λ (j : IntKind). g.V.Values.made c.value.new.values j c.in_ok-number.number) (sym own) c.in_ok-number.ensures.makes

pub switch-returns-clause-walked : goal.switch-returns-clause-walked
switch-returns-clause-walked g t c =
    let V = g.V.Values in
    let G = g.O.RunSetting.setting c.args.out.now in
    let e = view_expression c.args.e.now in
    let ss = sections (map view_section c.args.list.now) in
    let own : c.kind_at-own.result ≡ number_kind (type_in G.typing e) = c.kind_at-own.ensures ∙ ap (λ k. number_kind (G.typing.type_at k)) c.node_of.ensures in
    let kind = promote (number_kind (type_in G.typing e)) in
    let kind_is : c.promote-kind.result ≡ kind = c.promote-kind.ensures ∙ ap promote own in
    let x1 = c.in_ok-number.ensures in
    let v1 = c.in_ok-promoted.ensures in
    let t1 = c.in_ok-tests.ensures in
    let b1 = c.in_ok-begin_sections.ensures in
    let z1 = c.in_ok-sections.ensures.walked in
    let p1 = c.in_ok-pass_sections.ensures in
    let k3 = keeps_then V.serves V.has_key V.made V.shows c.value.new.values c.section_tests.new.values c.begin_sections.new.values
    (keeps_then V.serves V.has_key V.made V.shows c.value.new.values c.converted.new.values c.section_tests.new.values v1.keeps t1.keeps) b1.keeps in
    let k5 = keeps_then V.serves V.has_key V.made V.shows c.value.new.values c.sections.new.values c.pass_sections.new.values
    (keeps_then V.serves V.has_key V.made V.shows c.value.new.values c.begin_sections.new.values c.sections.new.values k3 z1.keeps) p1.keeps in
    let made = p1.made G z1.made in
    record {
      made = record { guard = made.guard; broken = k5.made_still _ _ x1.made.broken; continued = made.continued; registers = made.registers; cells = made.cells; steps = made.steps };
      events = p1.events ∙ events_then (events_in c.args.state.now.steps.items) (events_in c.begin_sections.new.state.steps.items) (events_in c.sections.new.state.steps.items) (value_events G e) (sections_events G ss) (b1.events ∙ x1.events) z1.events;
      follows = λ m s served at.
          let W = path_world (g.O.WalkSetting.under c.args.out.now m) in
          let shows = V.shows in
          let a = x1.follows m s served at in
          let n = a.number in
          let o = chosen G.typing kind (wrap kind n) ss in
          let same : chosen G.typing c.promote-kind.result (wrap c.promote-kind.result n) ss ≡ o = ap (λ (j : IntKind). chosen G.typing j (wrap j n) ss) kind_is in
          let s1 = x1.keeps.served m served in
          let s2 = v1.keeps.served m s1 in
          let s3 = t1.keeps.served m s2 in
          let s4 = b1.keeps.served m s3 in
          let s5 = z1.keeps.served m s4 in
          let promoted = v1.value m n s1 (subst (λ (j : IntKind). shows c.value.new.values m j c.in_ok-number.number n) (sym own) a.value) in
          let two = t1.value m (wrap c.promote-kind.result n) a.standing.alive s2 promoted (v1.keeps.shown m _ _ _ a.stands.guard) in
          let tests = tests_still (shows c.section_tests.new.values m) (shows c.begin_sections.new.values m) (b1.keeps.shown m) c.in_ok-tests.tests.items (goes_if a.standing.alive o) None
          (subst (λ (q : Option ℕ). TestsShow (shows c.section_tests.new.values m) c.in_ok-tests.tests.items (goes_if a.standing.alive q)) same two.0) in
          let past = subst (λ (q : Option ℕ). shows c.section_tests.new.values m Int c.in_ok-tests.past (bit (a.standing.alive && is_none q))) same two.1 in
          let before = stands_still (shows c.value.new.values m) (shows c.section_tests.new.values m) (λ k v z h. t1.keeps.shown m k v z (v1.keeps.shown m k v z h)) G c.value.new.state a.standing a.stands in
          let z = z1.follows m (live false (begun a.standing)) (goes_if a.standing.alive o) s4 (rw c.as_slice.ensures.value tests) (λ h. let never : false ≡ true = h in absurd cc) (b1.stands G m a.standing s3 before) in
          let end = p1.stands G m z.standing (a.standing.alive && is_none o) s5 (z1.keeps.shown m _ _ _ (b1.keeps.shown m _ _ _ past)) z.stands in
          record {
            standing = switched o a.standing z.standing;
            stands = record { guard = end.guard; broken = k5.shown m _ _ _ a.stands.broken; continued = end.continued; numbers = end.numbers; kept = end.kept; events = end.events };
            is = then_flows [] (value_of G W e s.numbers s.kept) (λ x. from_chosen (chosen G.typing kind (wrap kind x) ss) (λ n r k. sections_run G W ss n r k)) n s a.standing (switched o a.standing z.standing) a.goes
                (chosen_flows (λ n r k. sections_run G W ss n r k) o a.standing z.standing z.is);
          };
      keeps = keeps_then V.serves V.has_key V.made V.shows c.args.values.now c.value.new.values c.pass_sections.new.values x1.keeps k5;
    }

pub sections-loop-at-init : goal.sections-loop-at-init
sections-loop-at-init g t c =
    let V = g.V.Values in (
      [],
      refl,
      c.requires.made,
      sym (append-nil (events_in c.args.state.now.steps.items)),
      keeps_none V.serves V.has_key V.made V.shows c.args.values.now,
      (λ m s goes_to served ht only at. record { standing = s; stands = at; is = record { goes_to = goes_to; tests = ht; alone = only; whole = λ u h. h } }),
      record { so_far = 0; costs = costs_none; completes = omega arith },
    )

pub sections-join-requires-clause-other : goal.sections-join-requires-clause-other
sections-join-requires-clause-other g t c =
    let below : c.loop-at.at < length c.args.tests.now = omega (arith, c.requires.length) in
    c.loop-at.invariant.4.made_still _ _ (tests_made_at (g.V.Values.made c.args.values.now) c.args.tests.now c.loop-at.at c.index-tests-at.result c.requires.tests below (sym c.index-tests-at.is))

pub sections-loop-at-preserved : goal.sections-loop-at-preserved
sections-loop-at-preserved g t c =
    let V = g.V.Values in
    let G = g.O.RunSetting.setting c.args.out.now in
    let list = c.args.list.now in
    let tests = c.args.tests.now in
    let i = c.loop-at.at in
    let so_far = c.loop-at.invariant in
    let below : i < length list = omega arith in
    let tests_below : i < length tests = omega (arith, c.requires.length) in
    let v = c.index-tests-at.result in
    let d = c.index-list-at.result in
    let step = next_of list i d below c.index-list-at.is in
    let next_test = next_of tests i v tests_below c.index-tests-at.is in
    let x = view_section d in
    let xs = sections (map view_section (drop (i + 1) list)) in
    let es : List Event = so_far.0 in
    let whole : es ++ sections_events G (sections (map view_section (d ∷ drop (i + 1) list))) ≡ sections_events G (sections (map view_section list)) = rw step at so_far.1 in
    let spent = so_far.6 in
    let completes : spent.so_far + sections_spent G (sections (map view_section (d ∷ drop (i + 1) list))) ≡ sections_spent G (sections (map view_section list)) = rw step at spent.completes in
    let j1 = c.in_ok-join.ensures in
    let y1 = c.in_ok-section.ensures.walked in (
      es ++ section_events G x,
      append_assoc es (section_events G x) (sections_events G xs) ∙ whole,
      y1.made,
      events_then (events_in c.args.state.now.steps.items) (events_in c.loop-at.state.steps.items) (events_in c.section.new.state.steps.items) es (section_events G x) so_far.3
          (events_behind (events_in c.loop-at.state.steps.items) (events_in c.join.new.state.steps.items) (events_in c.section.new.state.steps.items) (section_events G x) j1.events y1.events),
      keeps_then V.serves V.has_key V.made V.shows c.args.values.now c.join.new.values c.section.new.values (keeps_then V.serves V.has_key V.made V.shows c.args.values.now c.loop-at.values c.join.new.values so_far.4 j1.keeps) y1.keeps,
      (λ m s0 goes_to served ht only at0.
          let W = path_world (g.O.WalkSetting.under c.args.out.now m) in
          let a = so_far.5 m s0 goes_to served ht only at0 in
          let here = a.standing in
          let o : Option ℕ = a.is.goes_to in
          let lead : TestsLead (V.shows c.args.values.now m) (v ∷ drop (i + 1) tests) o None = rw next_test at a.is.tests in
          let s1 = so_far.4.served m served in
          let at1 = j1.stands G m here (is_first o) s1 (so_far.4.shown m _ _ _ lead.0) a.stands in
          let u = y1.follows m (live (is_first o || here.alive) here) (j1.keeps.served m s1) at1 in
          let flow : Flows [] (section_run G W x here.numbers here.kept) (live (here.alive || is_first o) here) u.standing =
          subst (λ (b : Bool). Flows [] (section_run G W x here.numbers here.kept) (live b here) u.standing) (or_swapped (is_first o) here.alive) u.is in
          record {
            standing = u.standing;
            stands = u.stands;
            is = record {
              goes_to = behind_first o;
              tests = lead.1;
              alone = alone_behind (section_run G W x here.numbers here.kept) o here u.standing a.is.alone flow;
              whole = λ w h. a.is.whole w (rw step (falls_next (λ r k. section_run G W x r k) (λ n r k. sections_run G W xs n r k) (λ n r k. sections_run G W (s.then_section x xs) n r k) o here u.standing w (λ r k. refl) (λ n r k. refl) a.is.alone flow h));
            };
          }),
      record { so_far = _; costs = costs_then (costs_step _ spent.costs (ap length j1.cells) j1.charge) c.in_ok-section.ensures.cost; completes = two_complete _ _ _ _ _ completes },
    )

pub sections-returns-clause-walked : goal.sections-returns-clause-walked
sections-returns-clause-walked g t c =
    let V = g.V.Values in
    let G = g.O.RunSetting.setting c.args.out.now in
    let list = c.args.list.now in
    let so_far = c.loop-at.invariant in
    let at = c.loop-at.at in
    let none : drop at list ≡ [] = drop_all at list (omega arith) in
    let no_tests : drop at c.args.tests.now ≡ [] = drop_all at c.args.tests.now (omega (arith, c.requires.length)) in
    let es : List Event = so_far.0 in
    let all = sections_events G (sections (map view_section list)) in
    let whole : es ++ [] ≡ all = rw none at so_far.1 in
    record {
      made = so_far.2;
      events = so_far.3 ∙ ap (λ z. events_in c.args.state.now.steps.items ++ z) (sym (append-nil es) ∙ whole);
      follows = λ m s0 goes_to served ht only at0.
          let W = path_world (g.O.WalkSetting.under c.args.out.now m) in
          let a = so_far.5 m s0 goes_to served ht only at0 in
          let nowhere : a.is.goes_to ≡ None = rw no_tests at a.is.tests in
          let ended : Falls (λ n r k. sections_run G W s.no_sections n r k) (begins a.standing.alive None) a.standing a.standing = falls_end (λ n r k. sections_run G W s.no_sections n r k) a.standing (λ n r k. refl) in
          record { standing = a.standing; stands = a.stands; is = a.is.whole a.standing (rw (none, nowhere) ended) };
      keeps = so_far.4;
    }

pub section-returns-clause-walked : goal.section-returns-clause-walked
section-returns-clause-walked g t c =
    let V = g.V.Values in
    let G = g.O.RunSetting.setting c.args.out.now in
    let k = (out-Section c.args.x.now).node.number in
    let xs = statements (map view_statement c.as_slice.result.now) in
    let e1 = c.in_ok-enter.ensures in
    let y1 = c.in_ok-statements.ensures.walked in
    rw (at_section c.args.x.now, ← c.as_slice.ensures)
    (record {
      made = y1.made;
      events = events_then (events_in c.args.state.now.steps.items) (events_in c.enter.new.state.steps.items) (events_in c.statements.new.state.steps.items) (hit k Arm ∷ []) (statements_events G xs) e1.events y1.events;
      follows = λ m s served at.
          let W = path_world (g.O.WalkSetting.under c.args.out.now m) in
          let a = y1.follows m (added (Enter k ∷ []) s) served (e1.stands G m s at) in
          record { standing = a.standing; stands = a.stands; is = after_flows [] (Enter k ∷ []) (λ r i. statements_run G W xs r i) s a.standing a.is };
      keeps = y1.keeps;
    })

pub statements-loop-s-init : goal.statements-loop-s-init
statements-loop-s-init g t c =
    let V = g.V.Values in
    ([], refl, walked_none V.serves V.has_key V.made V.shows (g.O.RunSetting.setting c.args.out.now) _ c.args.values.now c.args.state.now c.requires.made (λ m s u h. h), record { so_far = 0; costs = costs_none; completes = omega arith })

pub statements-loop-s-preserved : goal.statements-loop-s-preserved
statements-loop-s-preserved g t c =
    let V = g.V.Values in
    let G = g.O.RunSetting.setting c.args.out.now in
    let list = c.args.list.now in
    let i = c.loop-s.s-index in
    let so_far = c.loop-s.invariant in
    let step = next_of list i c.s-item.result c.loop-s-test.true c.s-item.is in
    let x = view_statement c.s-item.result in
    let xs = statements (map view_statement (drop (i + 1) list)) in
    let es : List Event = so_far.0 in
    let whole : es ++ statements_events G (statements (map view_statement (c.s-item.result ∷ drop (i + 1) list))) ≡ statements_events G (statements (map view_statement list)) = rw step at so_far.1 in
    let spent = so_far.3 in
    let completes : spent.so_far + statements_spent G (statements (map view_statement (c.s-item.result ∷ drop (i + 1) list))) ≡ statements_spent G (statements (map view_statement list)) = rw step at spent.completes in (
      es ++ statement_events G x,
      append_assoc es (statement_events G x) (statements_events G xs) ∙ whole,
      walked_then V.serves V.has_key V.made V.shows G es (statement_events G x) _ _ _ c.args.values.now c.loop-s.values c.statement.new.values c.args.state.now c.loop-s.state c.statement.new.state
          (λ m s t u p q. λ v h.
          let W = path_world (g.O.WalkSetting.under c.args.out.now m) in
          p v (rw step (next_flows [] [] (statement_run G W x t.numbers t.kept) (λ r k. statements_run G W xs r k) t u v q h)))
          so_far.2 c.in_ok-statement.ensures.walked,
      record { so_far = _; costs = costs_then spent.costs c.in_ok-statement.ensures.cost; completes = one_completes _ _ _ _ completes },
    )

pub statements-returns-clause-walked : goal.statements-returns-clause-walked
statements-returns-clause-walked g t c =
    let V = g.V.Values in
    let G = g.O.RunSetting.setting c.args.out.now in
    let list = c.args.list.now in
    let so_far = c.loop-s.invariant in
    let none : drop c.loop-s.s-index list ≡ [] = drop_all c.loop-s.s-index list (omega arith) in
    let es : List Event = so_far.0 in
    let all = statements_events G (statements (map view_statement list)) in
    let whole : es ++ [] ≡ all = rw none at so_far.1 in
    walked_end V.serves V.has_key V.made V.shows G es all _ _ c.args.values.now c.loop-s.values c.args.state.now c.loop-s.state whole
    (λ m s t p. p t (rw none (empty_flows t))) so_far.2

-- ---- what is asked at the calls of the cycle

pub statement-block-requires : goal.statement-block-requires
statement-block-requires g t c κs within =
    let P = g.O.RunSetting.knows c.args.out.now in
    let G = g.O.RunSetting.setting c.args.out.now in
    let is = at_block c.args.s.now c.in-Block.list c.in-Block.is in
    let each : EachLoopOfParts P (parts (map view_part c.as_slice.result.now)) = rw (is, ← c.as_slice.ensures) at c.requires.loops in
    let kinded : KindedBlock G (parts (map view_part c.as_slice.result.now)) = rw (is, ← c.as_slice.ensures) at c.requires.kinded in
    let deep = in_block c.args.s.now c.in-Block.list c.in-Block.is in
    let same = ap (most part_size) c.as_slice.ensures in
    (omega (arith, deep, same, c.decreases), (search rules, (search rules, (search rules, (each, (kinded, (c.requires.keys, c.requires.made)))))))

pub statement-entered-requires : goal.statement-entered-requires
statement-entered-requires g t c κs within =
    let V = g.V.Values in
    let P = g.O.RunSetting.knows c.args.out.now in
    let G = g.O.RunSetting.setting c.args.out.now in
    let is = at_if_statement c.args.s.now c.in-If.e c.in-If.x c.in-If.other c.in-If.is in
    let known : EachLoop P (view_statement c.in-If.x) × EachLoopOfOther P (maybe_statement (option_map view_statement c.in-If.other)) = rw is at c.requires.loops in
    let kinds : Kinded G (view_expression c.in-If.e) × KindedStatement G (view_statement c.in-If.x) × KindedOther G (maybe_statement (option_map view_statement c.in-If.other)) = rw is at c.requires.kinded in
    let each : EachLoop P (view_statement c.get.result.now) = rw c.get.ensures known.0 in
    let kinded : KindedStatement G (view_statement c.get.result.now) = rw c.get.ensures kinds.1 in
    let deep = in_if c.args.s.now c.in-If.e c.in-If.x c.in-If.other c.in-If.is in
    let same = ap the_size c.get.ensures in
    let x1 = c.in_ok-test-in-If.ensures in
    let b1 = c.in_ok-second-in-If.ensures in
    let k2 = keeps_then V.serves V.has_key V.made V.shows c.args.values.now c.tested.new.values c.begin_branch.new.values x1.keeps b1.keeps in
    let keys = there_still V.serves V.has_key V.made V.shows c.args.values.now c.begin_branch.new.values (g.O.WalkSetting.kinds c.args.out.now) k2 c.requires.keys in
    (omega (arith, deep, same, c.decreases), (search rules, (search rules, (search rules, (each, (kinded, (keys, b1.made G x1.made)))))))

pub statement-otherwise-requires : goal.statement-otherwise-requires
statement-otherwise-requires g t c κs within =
    let V = g.V.Values in
    let P = g.O.RunSetting.knows c.args.out.now in
    let G = g.O.RunSetting.setting c.args.out.now in
    let is = at_if_statement c.args.s.now c.in-If.e c.in-If.x c.in-If.other c.in-If.is in
    let known : EachLoop P (view_statement c.in-If.x) × EachLoopOfOther P (maybe_statement (option_map view_statement c.in-If.other)) = rw is at c.requires.loops in
    let kinds : Kinded G (view_expression c.in-If.e) × KindedStatement G (view_statement c.in-If.x) × KindedOther G (maybe_statement (option_map view_statement c.in-If.other)) = rw is at c.requires.kinded in
    let deep = in_other c.args.s.now c.in-If.e c.in-If.x c.in-If.other c.in-If.is in
    let x1 = c.in_ok-test-in-If.ensures in
    let b1 = c.in_ok-second-in-If.ensures in
    let y1 = c.in_ok-entered-in-If.ensures.walked in
    let k3 = keeps_then V.serves V.has_key V.made V.shows c.args.values.now c.begin_branch.new.values c.entered.new.values (keeps_then V.serves V.has_key V.made V.shows c.args.values.now c.tested.new.values c.begin_branch.new.values x1.keeps b1.keeps) y1.keeps in
    let keys = there_still V.serves V.has_key V.made V.shows c.args.values.now c.entered.new.values (g.O.WalkSetting.kinds c.args.out.now) k3 c.requires.keys in
    let made = is_made_guarded (V.made c.entered.new.values) G c.entered.new.state c.in_ok-second-in-If.second y1.made (y1.keeps.made_still _ _ b1.makes) in
    (omega (arith, deep, c.decreases), (search rules, (search rules, (search rules, (known.1, (kinds.2, (keys, made)))))))

pub statement-switch-requires : goal.statement-switch-requires
statement-switch-requires g t c κs within =
    let P = g.O.RunSetting.knows c.args.out.now in
    let G = g.O.RunSetting.setting c.args.out.now in
    let is = at_switch_statement c.args.s.now c.in-Switch.e c.in-Switch.list c.in-Switch.is in
    let each : EachLoopOfSections P (sections (map view_section c.as_slice-in-Switch.result.now)) = rw (is, ← c.as_slice-in-Switch.ensures) at c.requires.loops in
    let kinds : Kinded G (view_expression c.in-Switch.e) × KindedSections G (sections (map view_section c.as_slice-in-Switch.result.now)) = rw (is, ← c.as_slice-in-Switch.ensures) at c.requires.kinded in
    let deep = in_switch c.args.s.now c.in-Switch.e c.in-Switch.list c.in-Switch.is in
    let same = ap (most section_size) c.as_slice-in-Switch.ensures in
    (omega (arith, deep, same, c.decreases), (search rules, (search rules, (search rules, (each, (kinds.0, (kinds.1, (c.requires.keys, c.requires.made))))))))

pub statement-while_loop-requires : goal.statement-while_loop-requires
statement-while_loop-requires g t c κs within =
    let P = g.O.RunSetting.knows c.args.out.now in
    let G = g.O.RunSetting.setting c.args.out.now in
    let whole = view_statement c.args.s.now in
    let x = view_statement c.in-While.x in
    let e = view_expression c.in-While.e in
    let is = at_while_statement c.args.s.now c.in-While.e c.in-While.x c.in-While.is in
    let known : P (out-Stmt c.args.s.now).node.number (s.while_statement e x) × EachLoop P x = rw is at c.requires.loops in
    let kinds : Kinded G e × KindedStatement G x = rw is at c.requires.kinded in
    let here : P (statement_node whole) (form_of whole) = rw is known.0 in
    let each : EachLoop P (view_statement c.get-in-While.result.now) = rw c.get-in-While.ensures known.1 in
    let kinded : KindedStatement G (view_statement c.get-in-While.result.now) = rw c.get-in-While.ensures kinds.1 in
    let deep = in_while c.args.s.now c.in-While.e c.in-While.x c.in-While.is in
    let same = ap the_size c.get-in-While.ensures in
    (omega (arith, deep, same, c.decreases), (search rules, (search rules, (search rules, (here, (each, (kinds.0, (tt, (kinded, (c.requires.keys, c.requires.made))))))))))

pub statement-do_loop-requires : goal.statement-do_loop-requires
statement-do_loop-requires g t c κs within =
    let P = g.O.RunSetting.knows c.args.out.now in
    let G = g.O.RunSetting.setting c.args.out.now in
    let whole = view_statement c.args.s.now in
    let x = view_statement c.in-Do.x in
    let e = view_expression c.in-Do.e in
    let is = at_do_statement c.args.s.now c.in-Do.x c.in-Do.e c.in-Do.is in
    let known : P (out-Stmt c.args.s.now).node.number (s.do_statement x e) × EachLoop P x = rw is at c.requires.loops in
    let kinds : KindedStatement G x × Kinded G e = rw is at c.requires.kinded in
    let here : P (statement_node whole) (form_of whole) = rw is known.0 in
    let each : EachLoop P (view_statement c.get-in-Do.result.now) = rw c.get-in-Do.ensures known.1 in
    let kinded : KindedStatement G (view_statement c.get-in-Do.result.now) = rw c.get-in-Do.ensures kinds.0 in
    let deep = in_do c.args.s.now c.in-Do.x c.in-Do.e c.in-Do.is in
    let same = ap the_size c.get-in-Do.ensures in
    (omega (arith, deep, same, c.decreases), (search rules, (search rules, (search rules, (here, (each, (kinds.1, (kinded, (c.requires.keys, c.requires.made)))))))))

pub statement-for_loop-requires : goal.statement-for_loop-requires
statement-for_loop-requires g t c κs within =
    let P = g.O.RunSetting.knows c.args.out.now in
    let G = g.O.RunSetting.setting c.args.out.now in
    let whole = view_statement c.args.s.now in
    let x = view_statement c.in-For.x in
    let first = view_start c.in-For.first in
    let test = given_expression c.in-For.test in
    let step = given_expression c.in-For.step in
    let is = at_for_statement c.args.s.now c.in-For.first c.in-For.test c.in-For.step c.in-For.x c.in-For.is in
    let known : P (out-Stmt c.args.s.now).node.number (s.for_statement first test step x) × EachLoop P x = rw is at c.requires.loops in
    let kinds : KindedStart G first × KindedMaybe G test × KindedMaybe G step × KindedStatement G x = rw is at c.requires.kinded in
    let here : P (statement_node whole) (form_of whole) = rw is known.0 in
    let each : EachLoop P (view_statement c.get-in-For.result.now) = rw c.get-in-For.ensures known.1 in
    let kinded : KindedStatement G (view_statement c.get-in-For.result.now) = rw c.get-in-For.ensures kinds.3 in
    let of_test : KindedMaybe G (given_expression (option_copied c.as_ref-test.result)) = rw c.as_ref-test.ensures.value kinds.1 in
    let of_step : KindedMaybe G (given_expression (option_copied c.as_ref-in-For.result)) = rw c.as_ref-in-For.ensures.value kinds.2 in
    let deep = in_for c.args.s.now c.in-For.first c.in-For.test c.in-For.step c.in-For.x c.in-For.is in
    let same = ap the_size c.get-in-For.ensures in
    (omega (arith, deep, same, c.decreases), (search rules, (search rules, (search rules, (here, (each, (kinds.0, (of_test, (of_step, (kinded, (c.requires.keys, c.requires.made)))))))))))

pub parts-part-requires : goal.parts-part-requires
parts-part-requires g t c κs within =
    let V = g.V.Values in
    let P = g.O.RunSetting.knows c.args.out.now in
    let G = g.O.RunSetting.setting c.args.out.now in
    let so_far = c.loop-p.invariant in
    let each : EachLoopOfPart P (view_part c.p-item.result) = of_part P c.args.list.now c.loop-p.p-index c.p-item.result c.loop-p-test.true c.p-item.is c.requires.loops in
    let kinded = kinded_part G c.args.list.now c.loop-p.p-index c.p-item.result c.loop-p-test.true c.p-item.is c.requires.kinded in
    let keys = there_still V.serves V.has_key V.made V.shows c.args.values.now c.loop-p.values (g.O.WalkSetting.kinds c.args.out.now) so_far.2.keeps c.requires.keys in
    let deep = element_below part_size c.args.list.now c.loop-p.p-index c.p-item.result c.loop-p-test.true c.p-item.is in
    (omega (arith, deep, c.decreases), (search rules, (search rules, (search rules, (each, (kinded, (keys, so_far.2.made)))))))

pub part-statement-requires : goal.part-statement-requires
part-statement-requires g t c κs within =
    let P = g.O.RunSetting.knows c.args.out.now in
    let G = g.O.RunSetting.setting c.args.out.now in
    let is = at_run c.args.p.now c.in-Run.s c.in-Run.is in
    let each : EachLoop P (view_statement c.in-Run.s) = rw is at c.requires.loops in
    let kinded : KindedStatement G (view_statement c.in-Run.s) = rw is at c.requires.kinded in
    let deep = in_part c.args.p.now c.in-Run.s c.in-Run.is in
    (omega (arith, deep, c.decreases), (search rules, (search rules, (search rules, (each, (kinded, (c.requires.keys, c.requires.made)))))))

pub sections-section-requires : goal.sections-section-requires
sections-section-requires g t c κs within =
    let V = g.V.Values in
    let P = g.O.RunSetting.knows c.args.out.now in
    let G = g.O.RunSetting.setting c.args.out.now in
    let so_far = c.loop-at.invariant in
    let j1 = c.in_ok-join.ensures in
    let below : c.loop-at.at < length c.args.list.now = omega arith in
    let d = c.index-list-at.result in
    let each : EachLoopOfSection P (view_section d) = of_section P c.args.list.now c.loop-at.at d below c.index-list-at.is c.requires.loops in
    let kinded = kinded_section G c.args.list.now c.loop-at.at d below c.index-list-at.is c.requires.kinded in
    let k2 = keeps_then V.serves V.has_key V.made V.shows c.args.values.now c.loop-at.values c.join.new.values so_far.4 j1.keeps in
    let keys = there_still V.serves V.has_key V.made V.shows c.args.values.now c.join.new.values (g.O.WalkSetting.kinds c.args.out.now) k2 c.requires.keys in
    let deep = element_below section_size c.args.list.now c.loop-at.at d below c.index-list-at.is in
    (omega (arith, deep, c.decreases), (search rules, (search rules, (search rules, (each, (kinded, (keys, j1.made G so_far.2)))))))

pub section-statements-requires : goal.section-statements-requires
section-statements-requires g t c κs within =
    let P = g.O.RunSetting.knows c.args.out.now in
    let G = g.O.RunSetting.setting c.args.out.now in
    let is = at_section c.args.x.now in
    let each : EachLoopOfStatements P (statements (map view_statement c.as_slice.result.now)) = rw (is, ← c.as_slice.ensures) at c.requires.loops in
    let kinded : KindedStatements G (statements (map view_statement c.as_slice.result.now)) = rw (is, ← c.as_slice.ensures) at c.requires.kinded in
    let deep = in_section c.args.x.now in
    let same = ap (most the_size) c.as_slice.ensures in
    (omega (arith, deep, same, c.decreases), (search rules, (search rules, (search rules, (each, (kinded, (c.requires.keys, c.in_ok-enter.ensures.made G c.requires.made)))))))

pub statements-statement-requires : goal.statements-statement-requires
statements-statement-requires g t c κs within =
    let V = g.V.Values in
    let P = g.O.RunSetting.knows c.args.out.now in
    let G = g.O.RunSetting.setting c.args.out.now in
    let so_far = c.loop-s.invariant in
    let each : EachLoop P (view_statement c.s-item.result) = of_statement P c.args.list.now c.loop-s.s-index c.s-item.result c.loop-s-test.true c.s-item.is c.requires.loops in
    let kinded = kinded_statement G c.args.list.now c.loop-s.s-index c.s-item.result c.loop-s-test.true c.s-item.is c.requires.kinded in
    let keys = there_still V.serves V.has_key V.made V.shows c.args.values.now c.loop-s.values (g.O.WalkSetting.kinds c.args.out.now) so_far.2.keeps c.requires.keys in
    let deep = element_below the_size c.args.list.now c.loop-s.s-index c.s-item.result c.loop-s-test.true c.s-item.is in
    (omega (arith, deep, c.decreases), (search rules, (search rules, (search rules, (each, (kinded, (keys, so_far.2.made)))))))

pub block-parts-requires : goal.block-parts-requires
block-parts-requires g t c κs within =
    let V = g.V.Values in
    let G = g.O.RunSetting.setting c.args.out.now in
    let k1 = c.in_ok-saved.ensures.keeps in
    let keys = there_still V.serves V.has_key V.made V.shows c.args.values.now c.saved_parts.new.values (g.O.WalkSetting.kinds c.args.out.now) k1 c.requires.keys in
    let made = is_made_still (V.made c.args.values.now) (V.made c.saved_parts.new.values) k1.made_still G c.args.state.now c.requires.made in
    (omega (arith, c.decreases), (search rules, (search rules, (search rules, (c.requires.loops, (c.requires.kinded, (keys, made)))))))

pub for_loop-start-requires-clause-made : goal.for_loop-start-requires-clause-made
for_loop-start-requires-clause-made g t c =
    let V = g.V.Values in
    is_made_still (V.made c.args.values.now) (V.made c.saved_start.new.values) c.in_ok-saved.ensures.keeps.made_still (g.O.RunSetting.setting c.args.out.now) c.args.state.now c.requires.made

pub switch-sections-requires : goal.switch-sections-requires
switch-sections-requires g t c κs within =
    let V = g.V.Values in
    let G = g.O.RunSetting.setting c.args.out.now in
    let x1 = c.in_ok-number.ensures in
    let v1 = c.in_ok-promoted.ensures in
    let t1 = c.in_ok-tests.ensures in
    let b1 = c.in_ok-begin_sections.ensures in
    let k2 = keeps_then V.serves V.has_key V.made V.shows c.value.new.values c.converted.new.values c.section_tests.new.values v1.keeps t1.keeps in
    let k3 = keeps_then V.serves V.has_key V.made V.shows c.args.values.now c.section_tests.new.values c.begin_sections.new.values (keeps_then V.serves V.has_key V.made V.shows c.args.values.now c.value.new.values c.section_tests.new.values x1.keeps k2) b1.keeps in
    let keys = there_still V.serves V.has_key V.made V.shows c.args.values.now c.begin_sections.new.values (g.O.WalkSetting.kinds c.args.out.now) k3 c.requires.keys in
    let made = b1.made G (is_made_still (V.made c.value.new.values) (V.made c.section_tests.new.values) k2.made_still G c.value.new.state x1.made) in
    let length = ap length c.as_slice.ensures.value ∙ t1.length in
    let tests : TestsMade (V.made c.begin_sections.new.values) c.as_slice.result.now = rw c.as_slice.ensures.value (tests_made_still (V.made c.section_tests.new.values) (V.made c.begin_sections.new.values) b1.keeps.made_still c.in_ok-tests.tests.items t1.tests) in
    (omega (arith, c.decreases), (search rules, (search rules, (search rules, (c.requires.loops, (c.requires.kinded, (keys, (made, (length, tests)))))))))

pub statement-returns-in-Block-clause-cost : goal.statement-returns-in-Block-clause-cost
statement-returns-in-Block-clause-cost g t c = rw (at_block c.args.s.now c.in-Block.list c.in-Block.is, ← c.as_slice.ensures) c.block.ensures.cost

pub statement-returns-in_ok-discarded-in-Plain-clause-cost : goal.statement-returns-in_ok-discarded-in-Plain-clause-cost
statement-returns-in_ok-discarded-in-Plain-clause-cost g t c =
    let part = rw c.as_ref.ensures.value at c.in_ok-discarded-in-Plain.ensures.cost in
    rw (at_expression_statement c.args.s.now c.in-Plain.e c.in-Plain.is) part

pub statement-returns-in_ok-join-in-If-clause-cost : goal.statement-returns-in_ok-join-in-If-clause-cost
statement-returns-in_ok-join-in-If-clause-cost g t c =
    let b1 = c.in_ok-second-in-If.ensures in
    let j1 = c.in_ok-join-in-If.ensures in
    rw (at_if_statement c.args.s.now c.in-If.e c.in-If.x c.in-If.other c.in-If.is, ← c.get.ensures)
    (costs_step _ (costs_then (costs_then (costs_step _ c.in_ok-test-in-If.ensures.cost (ap length b1.cells) b1.charge) c.in_ok-entered-in-If.ensures.cost) c.in_ok-otherwise-in-If.ensures.cost) (ap length j1.cells) j1.charge)

pub statement-returns-in-Switch-clause-cost : goal.statement-returns-in-Switch-clause-cost
statement-returns-in-Switch-clause-cost g t c = rw (at_switch_statement c.args.s.now c.in-Switch.e c.in-Switch.list c.in-Switch.is, ← c.as_slice-in-Switch.ensures) c.switch.ensures.cost

pub statement-returns-in_ok-while_loop-in-While-clause-cost : goal.statement-returns-in_ok-while_loop-in-While-clause-cost
statement-returns-in_ok-while_loop-in-While-clause-cost g t c =
    let is = at_while_statement c.args.s.now c.in-While.e c.in-While.x c.in-While.is in
    let left = rw (is, c.get-in-While.ensures) at c.in_ok-while_loop-in-While.ensures.cost in
    rw is (costs_within _ (none_more _) left)

pub statement-returns-in-Do-clause-cost : goal.statement-returns-in-Do-clause-cost
statement-returns-in-Do-clause-cost g t c =
    let is = at_do_statement c.args.s.now c.in-Do.x c.in-Do.e c.in-Do.is in
    let left = rw (is, c.get-in-Do.ensures) at c.do_loop.ensures.cost in
    rw is left

pub statement-returns-in-For-clause-cost : goal.statement-returns-in-For-clause-cost
statement-returns-in-For-clause-cost g t c =
    let is = at_for_statement c.args.s.now c.in-For.first c.in-For.test c.in-For.step c.in-For.x c.in-For.is in
    let left = rw (is, c.get-in-For.ensures, c.as_ref-test.ensures.value, c.as_ref-in-For.ensures.value) at c.for_loop.ensures.cost in
    rw is left

pub statement-returns-in_ok-leave_by_break-in-Break-clause-cost : goal.statement-returns-in_ok-leave_by_break-in-Break-clause-cost
statement-returns-in_ok-leave_by_break-in-Break-clause-cost g t c =
    let x1 = c.in_ok-leave_by_break-in-Break.ensures in
    rw (at_break_statement c.args.s.now c.in-Break.is) (costs_only (ap length x1.cells) x1.charge)

pub statement-returns-in_ok-leave_by_continue-in-Continue-clause-cost : goal.statement-returns-in_ok-leave_by_continue-in-Continue-clause-cost
statement-returns-in_ok-leave_by_continue-in-Continue-clause-cost g t c =
    let x1 = c.in_ok-leave_by_continue-in-Continue.ensures in
    rw (at_continue_statement c.args.s.now c.in-Continue.is) (costs_only (ap length x1.cells) x1.charge)

pub statement-returns-in-Return-clause-cost : goal.statement-returns-in-Return-clause-cost
statement-returns-in-Return-clause-cost g t c = rw (at_return_statement c.args.s.now c.in-Return.e c.in-Return.is, ← c.as_ref-in-Return.ensures.value) c.returned.ensures.cost

pub entered-returns-clause-cost : goal.entered-returns-clause-cost
entered-returns-clause-cost g t c = costs_cells (ap length c.in_ok-enter.ensures.cells) c.in_ok-statement.ensures.cost

pub otherwise-returns-in-None-clause-cost : goal.otherwise-returns-in-None-clause-cost
otherwise-returns-in-None-clause-cost g t c = rw c.in-None.is costs_none

pub block-returns-clause-cost : goal.block-returns-clause-cost
block-returns-clause-cost g t c = costs_after c.in_ok-saved.ensures.charge c.in_ok-parts.ensures.cost

pub parts-returns-clause-cost : goal.parts-returns-clause-cost
parts-returns-clause-cost g t c =
    let G = g.O.RunSetting.setting c.args.out.now in
    let list = c.args.list.now in
    let none : drop c.loop-p.p-index list ≡ [] = drop_all c.loop-p.p-index list (omega arith) in
    let rest : parts_spent G (parts (map view_part (drop c.loop-p.p-index list))) ≡ 0 = ap (λ z. parts_spent G (parts (map view_part z))) none in
    spent_all rest c.loop-p.invariant.3

pub part-returns-in_ok-declaration-in-Local-clause-cost : goal.part-returns-in_ok-declaration-in-Local-clause-cost
part-returns-in_ok-declaration-in-Local-clause-cost g t c = rw (at_local c.args.p.now c.in-Local.d c.in-Local.is) c.in_ok-declaration-in-Local.ensures.cost

pub part-returns-in-Run-clause-cost : goal.part-returns-in-Run-clause-cost
part-returns-in-Run-clause-cost g t c = rw (at_run c.args.p.now c.in-Run.s c.in-Run.is) c.statement.ensures.cost

pub for_loop-returns-clause-cost : goal.for_loop-returns-clause-cost
for_loop-returns-clause-cost g t c = costs_within _ (six_regrouped _ _ _ _ _ _) (costs_after c.in_ok-saved.ensures.charge (costs_then c.in_ok-start.ensures.cost c.in_ok-while_loop.ensures.cost))

pub while_loop-returns-clause-cost : goal.while_loop-returns-clause-cost
while_loop-returns-clause-cost g t c = rw (at_statement_form c.args.whole.now) (costs_within _ (five_regrouped _ _ _ _ _) (costs_then c.in_ok-begin_loop.ensures.cost c.in_ok-while_turn.ensures.cost))

pub while_turn-returns-in-None-clause-cost : goal.while_turn-returns-in-None-clause-cost
while_turn-returns-in-None-clause-cost g t c = rw c.in-None.is (costs_on_ok _ _ _ _ _ _ _ c.turn.result _ (none_before _ _ _) c.turn.ensures.cost)

pub while_turn-returns-in_ok-join-in-Some-clause-cost : goal.while_turn-returns-in_ok-join-in-Some-clause-cost
while_turn-returns-in_ok-join-in-Some-clause-cost g t c =
    let b1 = c.in_ok-past-in-Some.ensures in
    let j1 = c.in_ok-join-in-Some.ensures in
    rw c.in-Some.is (costs_within _ (tested_regrouped _ _ _) (costs_step _ (costs_then (costs_step _ c.in_ok-test-in-Some.ensures.cost (ap length b1.cells) b1.charge) c.in_ok-turn-in-Some.ensures.cost) (ap length j1.cells) j1.charge))

pub turn-returns-clause-cost : goal.turn-returns-clause-cost
turn-returns-clause-cost g t c =
    let o1 = c.in_ok-open_body.ensures in
    let p1 = c.in_ok-pass_body.ensures in
    costs_then (costs_step _ (costs_cells (ap length o1.cells) (costs_after o1.charge c.in_ok-entered.ensures.cost)) (ap length p1.cells) p1.charge) c.in_ok-discarded.ensures.cost

pub do_loop-returns-clause-cost : goal.do_loop-returns-clause-cost
do_loop-returns-clause-cost g t c = rw (at_statement_form c.args.whole.now) (costs_within _ (five_regrouped _ _ _ _ _) (costs_then c.in_ok-begin_loop.ensures.cost c.in_ok-do_turn.ensures.cost))

pub do_turn-returns-clause-cost : goal.do_turn-returns-clause-cost
do_turn-returns-clause-cost g t c =
    let o1 = c.in_ok-open_body.ensures in
    let p1 = c.in_ok-pass_body.ensures in
    let e1 = c.in_ok-pass_test.ensures in
    costs_step _ (costs_then (costs_step _ (costs_cells (ap length o1.cells) (costs_after o1.charge c.in_ok-entered.ensures.cost)) (ap length p1.cells) p1.charge) c.in_ok-test.ensures.cost) (ap length e1.cells) e1.charge

pub switch-returns-clause-cost : goal.switch-returns-clause-cost
switch-returns-clause-cost g t c =
    let G = g.O.RunSetting.setting c.args.out.now in
    let e = view_expression c.args.e.now in
    let own : c.kind_at-own.result ≡ number_kind (type_in G.typing e) = c.kind_at-own.ensures ∙ ap (λ k. number_kind (G.typing.type_at k)) c.node_of.ensures in
    let kind : c.promote-kind.result ≡ promote (number_kind (type_in G.typing e)) = c.promote-kind.ensures ∙ ap promote own in
    let converted = rw (kind, own) at c.in_ok-promoted.ensures.charge in
    let tests = rw kind at c.in_ok-tests.ensures.charge in
    let b1 = c.in_ok-begin_sections.ensures in
    let p1 = c.in_ok-pass_sections.ensures in
    costs_step _ (costs_then (costs_still (costs_more _ (costs_more _ c.in_ok-number.ensures.cost converted) tests) (ap length b1.cells) b1.charge) c.in_ok-sections.ensures.cost) (ap length p1.cells) p1.charge

pub sections-returns-clause-cost : goal.sections-returns-clause-cost
sections-returns-clause-cost g t c =
    let G = g.O.RunSetting.setting c.args.out.now in
    let list = c.args.list.now in
    let none : drop c.loop-at.at list ≡ [] = drop_all c.loop-at.at list (omega arith) in
    let rest : sections_spent G (sections (map view_section (drop c.loop-at.at list))) ≡ 0 = ap (λ z. sections_spent G (sections (map view_section z))) none in
    spent_all rest c.loop-at.invariant.6

pub section-returns-clause-cost : goal.section-returns-clause-cost
section-returns-clause-cost g t c = rw (at_section c.args.x.now, ← c.as_slice.ensures) (costs_cells (ap length c.in_ok-enter.ensures.cells) c.in_ok-statements.ensures.cost)

pub statements-returns-clause-cost : goal.statements-returns-clause-cost
statements-returns-clause-cost g t c =
    let G = g.O.RunSetting.setting c.args.out.now in
    let list = c.args.list.now in
    let none : drop c.loop-s.s-index list ≡ [] = drop_all c.loop-s.s-index list (omega arith) in
    let rest : statements_spent G (statements (map view_statement (drop c.loop-s.s-index list))) ≡ 0 = ap (λ z. statements_spent G (statements (map view_statement z))) none in
    spent_all rest c.loop-s.invariant.3

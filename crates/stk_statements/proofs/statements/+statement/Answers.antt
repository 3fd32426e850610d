use Rattle.std.proofs.Common.{◌≡◌, ◌∙◌, ◌+◌, ◌<◌, List, [], Err, Ok, map, drop, length, sym, ap, arith, rules}
use Rattle.std.specs.Option.{option_map}
use Rattle.std.proofs.lemmas.List.{drop_all, length-map}
use Rattle.stk_tree.specs.declared.statement.Part.{Part}
use Rattle.stk_tree.specs.declared.statement.Section.{Section, out-Section}
use Rattle.stk_tree.specs.declared.statement.Stmt.{Stmt, out-Stmt}
use Rattle.stk_tree.specs.declared.statement.Label.{Label}
use Rattle.stk_tree.specs.View.{given_expression, labels, maybe_statement, parts, sections, statements, view_expression, view_label, view_part, view_section, view_start, view_statement}
use Rattle.stk_type_rules.specs.Facts.{Fact, fact_of}
use Rattle.stk_type_rules.specs.Outcome.{IsAt}
use Rattle.stk_type_rules.proofs.Steps.{stops}
use Rattle.stk_type_rules.specs.Types.{kind_of}
use Rattle.stk_typing.specs.Locals.{local_of}
use Rattle.stk_typing.specs.declared.locals.LocalName.{LocalName}
use Rattle.stk_typing.specs.Typing.{expression_typed}
use Rattle.stk_typing.proofs.Turns.{below, next_of, nil}
use Rattle.stk_function_types.specs.Bodies.{Body, looped, opened, switched, with_more}
use Rattle.stk_function_types.specs.Sections.{carried, labels_typed, unlabelled}
use Rattle.stk_function_types.specs.Statements.{maybe_statement_typed, parts_typed, section_typed, sections_typed, start_typed, statement_typed, statements_typed}
use Rattle.stk_statements.specs.Places.{body_in}
use Rattle.stk_statements.specs.Rows.{AnyFact, AnyLabels, IsKnown, IsStarted, Nothing}
use Rattle.stk_statements.proofs.Counts.{begins_then}
use Rattle.stk_statements.proofs.Turns.{Labels_are, more_body}
use Rattle.stk_statements.proofs.Seen.{block_typed, do_typed, for_typed, if_typed, switch_typed, view_sections, while_typed}
use Rattle.stk_statements.proofs.StatementTurns.{parts_turn, sections_turn, started_below, statements_turn, still_below}
use Rattle.stk_statements.proofs.Arms.{again, block_whole, do_second, do_whole, for_fourth, for_second, for_third, for_whole, if_first, if_second, if_third, if_whole, section_first, section_second, section_whole, still, switch_first, switch_second, switch_whole, while_first, while_second, while_whole}
use Rattle.stk_statements.proofs.statements.+statement.Goals as goal

-- ---- sections
pub section-returns-in_err-put_labels-clause-gives : goal.section-returns-in_err-put_labels-clause-gives
section-returns-in_err-put_labels-clause-gives t c = λ l is.
    let x = out-Section c.args.x.now in
    let b = body_in c.args.p.now c.args.locals.now in
    let same : c.from_residual.result ≡ Err c.in_err-put_labels.field-0.0 = search rules in
    let o = labels_typed b.scope c.args.kind (carried l) (labels (map view_label x.labels)) in
    let h = again (Labels_are c.put_labels.new.all) _ o (Err c.in_err-put_labels.field-0.0) (map fact_of c.args.facts.now.items) (map fact_of c.put_labels.new.facts.items) (ap (λ (z : List Label). labels_typed b.scope c.args.kind (carried l) (labels (map view_label z))) c.as_slice.ensures) (c.in_err-put_labels.ensures.gives (carried l) (c.carry.ensures l is)) in
    rw (view_sections c.args.x.now, same) (section_first o (statements_typed b (statements (map view_statement x.body))) x.node.number c.put_labels.new.all c.in_err-put_labels.field-0.0 (map fact_of c.args.facts.now.items) (map fact_of c.put_labels.new.facts.items) h)

pub section-returns-in_err-statements-clause-gives : goal.section-returns-in_err-statements-clause-gives
section-returns-in_err-statements-clause-gives t c = λ l is.
    let x = out-Section c.args.x.now in
    let b = body_in c.args.p.now c.args.locals.now in
    let e = c.in_err-statements.field-0.0 in
    let same : c.from_residual-in_err-statements.result ≡ Err e = search rules in
    let o = labels_typed b.scope c.args.kind (carried l) (labels (map view_label x.labels)) in
    let p = statements_typed b (statements (map view_statement x.body)) in
    let old = map fact_of c.args.facts.now.items in
    let mid = map fact_of c.put_labels.new.facts.items in
    let new = map fact_of c.statements.new.facts.items in
    let h = again (Labels_are c.put_labels.new.all) _ o (Ok c.in_ok-put_labels.field-0) old mid (ap (λ (z : List Label). labels_typed b.scope c.args.kind (carried l) (labels (map view_label z))) c.as_slice.ensures) (c.in_ok-put_labels.ensures.gives (carried l) (c.carry.ensures l is)) in
    let g = again Nothing _ p (Err e) mid new (ap (λ (z : List Stmt). statements_typed b (statements (map view_statement z))) c.as_slice-2.ensures) c.in_err-statements.ensures.gives in
    rw (view_sections c.args.x.now, same) (section_second o p x.node.number c.put_labels.new.all c.in_ok-put_labels.field-0 e old mid new h g)

pub section-returns-clause-gives : goal.section-returns-clause-gives
section-returns-clause-gives t c = λ l is.
    let x = out-Section c.args.x.now in
    let b = body_in c.args.p.now c.args.locals.now in
    let o = labels_typed b.scope c.args.kind (carried l) (labels (map view_label x.labels)) in
    let p = statements_typed b (statements (map view_statement x.body)) in
    let old = map fact_of c.args.facts.now.items in
    let mid = map fact_of c.put_labels.new.facts.items in
    let new = map fact_of c.statements.new.facts.items in
    let h = again (Labels_are c.put_labels.new.all) _ o (Ok c.in_ok-put_labels.field-0) old mid (ap (λ (z : List Label). labels_typed b.scope c.args.kind (carried l) (labels (map view_label z))) c.as_slice.ensures) (c.in_ok-put_labels.ensures.gives (carried l) (c.carry.ensures l is)) in
    let g = again Nothing _ p (Ok c.in_ok-statements.field-0) mid new (ap (λ (z : List Stmt). statements_typed b (statements (map view_statement z))) c.as_slice-2.ensures) c.in_ok-statements.ensures.gives in
    rw (view_sections c.args.x.now) (section_whole o p x.node.number c.put_labels.new.all c.in_ok-put_labels.field-0 c.in_ok-statements.field-0 c.by_section.result old mid new (map fact_of c.by_section.new.facts.items) h g c.by_section.ensures.gives)

pub sections-loop-x-preserved : goal.sections-loop-x-preserved
sections-loop-x-preserved t c =
    let step = next_of c.args.list.now c.loop-x.x-index c.x-item.result c.loop-x-test.true c.x-item.is in
    let p = c.args.p.now in
    let b = body_in p c.args.locals.now in
    record {
      locals = c.in_ok-section.ensures.locals ∙ c.loop-x.invariant.locals;
      sound = c.in_ok-section.ensures.sound;
      rest = λ result new now h m is.
          c.loop-x.invariant.rest result new now
          (λ z isz. rw step (sections_turn b c.args.kind z (view_section c.x-item.result) (sections (map view_section (drop (c.loop-x.x-index + 1) c.args.list.now))) c.section.new.all now c.in_ok-section.field-0 result (map fact_of c.loop-x.facts.items) (map fact_of c.section.new.facts.items) new
          (again (Labels_are c.section.new.all) _ (section_typed b c.args.kind z (view_section c.x-item.result)) (Ok c.in_ok-section.field-0) (map fact_of c.loop-x.facts.items) (map fact_of c.section.new.facts.items) (ap (λ (w : List LocalName). section_typed (body_in p w) c.args.kind z (view_section c.x-item.result)) c.loop-x.invariant.locals) (c.in_ok-section.ensures.gives z isz)) h)) m is;
    }

pub sections-returns-in_err-section-clause-gives : goal.sections-returns-in_err-section-clause-gives
sections-returns-in_err-section-clause-gives t c = λ l is.
    let e = c.in_err-section.field-0.0 in
    let same : c.from_residual.result ≡ Err e = search rules in
    let step = next_of c.args.list.now c.loop-x.x-index c.x-item.result c.loop-x-test.true c.x-item.is in
    let p = c.args.p.now in
    let b = body_in p c.args.locals.now in
    let old = map fact_of c.loop-x.facts.items in
    let new = map fact_of c.section.new.facts.items in
    rw same
    (c.loop-x.invariant.rest (Err e) new c.section.new.all
    (λ z isz. rw step (stops (Labels_are c.section.new.all) (Labels_are c.section.new.all) (section_typed b c.args.kind z (view_section c.x-item.result)) (λ m. sections_typed b c.args.kind m (sections (map view_section (drop (c.loop-x.x-index + 1) c.args.list.now)))) e old new old new
    (again (Labels_are c.section.new.all) _ (section_typed b c.args.kind z (view_section c.x-item.result)) (Err e) old new (ap (λ (w : List LocalName). section_typed (body_in p w) c.args.kind z (view_section c.x-item.result)) c.loop-x.invariant.locals) (c.in_err-section.ensures.gives z isz)))) l is)

pub sections-returns-clause-gives : goal.sections-returns-clause-gives
sections-returns-clause-gives t c = λ l is.
    let none : drop c.loop-x.x-index c.args.list.now ≡ [] = drop_all c.loop-x.x-index c.args.list.now (omega (arith, c.loop-x-test.false)) in
    c.loop-x.invariant.rest (Ok tt) (map fact_of c.loop-x.facts.items) c.loop-x.all (λ z isz. rw none (sym (nil (map fact_of c.loop-x.facts.items)), isz)) l is

-- ---- statements and parts, one after the other
pub statements-loop-x-preserved : goal.statements-loop-x-preserved
statements-loop-x-preserved t c =
    let step = next_of c.args.list.now c.loop-x.x-index c.x-item.result c.loop-x-test.true c.x-item.is in
    let p = c.args.p.now in
    let b = body_in p c.args.locals.now in
    let old = map fact_of c.loop-x.facts.items in
    let mid = map fact_of c.statement.new.facts.items in
    record {
      locals = c.in_ok-statement.ensures.locals ∙ c.loop-x.invariant.locals;
      sound = c.in_ok-statement.ensures.sound;
      rest = λ result new h.
          c.loop-x.invariant.rest result new
          (rw step (statements_turn b (view_statement c.x-item.result) (statements (map view_statement (drop (c.loop-x.x-index + 1) c.args.list.now))) c.in_ok-statement.field-0 result old mid new
          (again AnyFact _ (statement_typed b (view_statement c.x-item.result)) (Ok c.in_ok-statement.field-0) old mid (ap (λ (w : List LocalName). statement_typed (body_in p w) (view_statement c.x-item.result)) c.loop-x.invariant.locals) c.in_ok-statement.ensures.gives) h));
    }

pub parts-loop-x-preserved : goal.parts-loop-x-preserved
parts-loop-x-preserved t c =
    let step = next_of c.args.list.now c.loop-x.x-index c.x-item.result c.loop-x-test.true c.x-item.is in
    let p = c.args.p.now in
    let next = c.part.new.locals in
    record {
      locals = c.in_ok-part.ensures.locals;
      sound = c.in_ok-part.ensures.sound;
      begins = begins_then c.args.locals.now c.loop-x.locals next c.loop-x.invariant.begins c.in_ok-part.ensures.begins;
      rest = λ result new h.
          c.loop-x.invariant.rest result new
          (rw step (parts_turn (body_in p c.loop-x.locals) (body_in p next) (view_part c.x-item.result) (parts (map view_part (drop (c.loop-x.x-index + 1) c.args.list.now))) (map local_of c.loop-x.locals) (map local_of next) c.in_ok-part.field-0 result (map fact_of c.loop-x.facts.items) (map fact_of c.part.new.facts.items) new c.in_ok-part.ensures.gives
          (λ l is. more_body p c.loop-x.locals next l is) h));
    }

-- ---- a block
pub statement-returns-in_ok-block-in-Block-clause-gives : goal.statement-returns-in_ok-block-in-Block-clause-gives
statement-returns-in_ok-block-in-Block-clause-gives t c =
    let x = c.args.x.now in
    let b = body_in c.args.p.now c.args.locals.now in
    let ps = parts (map view_part c.in-Block.list) in
    let old = map fact_of c.args.facts.now.items in
    let mid = map fact_of c.block.new.facts.items in
    rw (block_typed b x c.in-Block.list c.in-Block.is)
    (block_whole b (out-Stmt x).node.number ps c.in_ok-block-in-Block.field-0 c.by_nothing.result old mid (map fact_of c.by_nothing.new.facts.items)
    (again Nothing _ (parts_typed (opened b) ps) (Ok c.in_ok-block-in-Block.field-0) old mid (ap (λ (z : List Part). parts_typed (opened b) (parts (map view_part z))) c.as_slice.ensures) c.in_ok-block-in-Block.ensures.gives) c.by_nothing.ensures.gives)

-- ---- `if`
pub statement-returns-in_err-at-in-If-clause-gives : goal.statement-returns-in_err-at-in-If-clause-gives
statement-returns-in_err-at-in-If-clause-gives t c =
    let f = c.in-If in
    let x = c.args.x.now in
    let b = body_in c.args.p.now c.args.locals.now in
    let e = c.in_err-at-in-If.field-0.0 in
    let same : c.from_residual-in_err-at-in-If.result ≡ Err e = search rules in
    rw (if_typed b x f.e f.y f.other f.is, same)
    (if_first b (out-Stmt x).node.number (view_expression f.e) (view_statement f.y) (maybe_statement (option_map view_statement f.other)) e (map fact_of c.args.facts.now.items) (map fact_of c.test.new.facts.items) c.in_err-at-in-If.ensures.gives)

pub statement-returns-in_err-statement-in-If-clause-gives : goal.statement-returns-in_err-statement-in-If-clause-gives
statement-returns-in_err-statement-in-If-clause-gives t c =
    let f = c.in-If in
    let x = c.args.x.now in
    let b = body_in c.args.p.now c.args.locals.now in
    let e = c.in_err-statement-in-If.field-0.0 in
    let same : c.from_residual-in_err-statement-in-If.result ≡ Err e = search rules in
    let old = map fact_of c.args.facts.now.items in
    let mid = map fact_of c.test.new.facts.items in
    let new = map fact_of c.statement.new.facts.items in
    rw (if_typed b x f.e f.y f.other f.is, same)
    (if_second b (out-Stmt x).node.number (view_expression f.e) (view_statement f.y) (maybe_statement (option_map view_statement f.other)) c.in_ok-at-in-If.at e old mid new c.in_ok-at-in-If.ensures.gives
    (again AnyFact _ (statement_typed b (view_statement f.y)) (Err e) mid new (ap (λ (z : Stmt). statement_typed b (view_statement z)) c.get.ensures) c.in_err-statement-in-If.ensures.gives))

pub statement-returns-in_err-otherwise-in-If-clause-gives : goal.statement-returns-in_err-otherwise-in-If-clause-gives
statement-returns-in_err-otherwise-in-If-clause-gives t c =
    let f = c.in-If in
    let x = c.args.x.now in
    let p = c.args.p.now in
    let b = body_in p c.args.locals.now in
    let other = maybe_statement (option_map view_statement f.other) in
    let e = c.in_err-otherwise-in-If.field-0.0 in
    let same : c.from_residual-in_err-otherwise-in-If.result ≡ Err e = search rules in
    let old = map fact_of c.args.facts.now.items in
    let mid = map fact_of c.test.new.facts.items in
    let next = map fact_of c.statement.new.facts.items in
    let new = map fact_of c.otherwise.new.facts.items in
    rw (if_typed b x f.e f.y f.other f.is, same)
    (if_third b (out-Stmt x).node.number (view_expression f.e) (view_statement f.y) other c.in_ok-at-in-If.at c.in_ok-statement-in-If.field-0 e old mid next new c.in_ok-at-in-If.ensures.gives
    (again AnyFact _ (statement_typed b (view_statement f.y)) (Ok c.in_ok-statement-in-If.field-0) mid next (ap (λ (z : Stmt). statement_typed b (view_statement z)) c.get.ensures) c.in_ok-statement-in-If.ensures.gives)
    (again Nothing _ (maybe_statement_typed b other) (Err e) next new (ap (λ (z : List LocalName). maybe_statement_typed (body_in p z) other) c.in_ok-statement-in-If.ensures.locals) c.in_err-otherwise-in-If.ensures.gives))

pub statement-by_test-requires : goal.statement-by_test-requires
statement-by_test-requires t c =
    let f = c.in-If in
    let p = c.args.p.now in
    let b = body_in p c.args.locals.now in
    let old = map fact_of c.args.facts.now.items in
    let mid = map fact_of c.test.new.facts.items in
    let next = map fact_of c.statement.new.facts.items in
    let new = map fact_of c.otherwise.new.facts.items in
    let i = c.in_ok-at-in-If.at in
    let first : i < length mid = below (expression_typed b.scope (view_expression f.e)) i old mid c.in_ok-at-in-If.ensures.gives in
    let then : i < length next = still AnyFact _ c.in_ok-statement-in-If.field-0 i mid next first c.in_ok-statement-in-If.ensures.gives in
    let last : i < length new = still Nothing _ c.in_ok-otherwise-in-If.field-0 i next new then c.in_ok-otherwise-in-If.ensures.gives in
    omega (arith, last, length-map c.otherwise.new.facts.items fact_of, c.otherwise.new.facts.ok.0)

pub statement-returns-in_ok-otherwise-in-If-clause-gives : goal.statement-returns-in_ok-otherwise-in-If-clause-gives
statement-returns-in_ok-otherwise-in-If-clause-gives t c =
    let f = c.in-If in
    let x = c.args.x.now in
    let p = c.args.p.now in
    let b = body_in p c.args.locals.now in
    let other = maybe_statement (option_map view_statement f.other) in
    let old = map fact_of c.args.facts.now.items in
    let mid = map fact_of c.test.new.facts.items in
    let next = map fact_of c.statement.new.facts.items in
    let last = map fact_of c.otherwise.new.facts.items in
    rw (if_typed b x f.e f.y f.other f.is)
    (if_whole b (out-Stmt x).node.number (view_expression f.e) (view_statement f.y) other c.in_ok-at-in-If.at c.in_ok-statement-in-If.field-0 c.in_ok-otherwise-in-If.field-0 c.by_test.result old mid next last (map fact_of c.by_test.new.facts.items) c.in_ok-at-in-If.ensures.gives
    (again AnyFact _ (statement_typed b (view_statement f.y)) (Ok c.in_ok-statement-in-If.field-0) mid next (ap (λ (z : Stmt). statement_typed b (view_statement z)) c.get.ensures) c.in_ok-statement-in-If.ensures.gives)
    (again Nothing _ (maybe_statement_typed b other) (Ok c.in_ok-otherwise-in-If.field-0) next last (ap (λ (z : List LocalName). maybe_statement_typed (body_in p z) other) c.in_ok-statement-in-If.ensures.locals) c.in_ok-otherwise-in-If.ensures.gives) c.by_test.ensures.gives)

-- ---- `switch`
pub statement-returns-in_err-at-in-Switch-clause-gives : goal.statement-returns-in_err-at-in-Switch-clause-gives
statement-returns-in_err-at-in-Switch-clause-gives t c =
    let f = c.in-Switch in
    let x = c.args.x.now in
    let b = body_in c.args.p.now c.args.locals.now in
    let e = c.in_err-at-in-Switch.field-0.0 in
    let same : c.from_residual-in_err-at-in-Switch.result ≡ Err e = search rules in
    rw (switch_typed b x f.e f.list f.is, same)
    (switch_first b (out-Stmt x).node.number (view_expression f.e) (sections (map view_section f.list)) e (map fact_of c.args.facts.now.items) (map fact_of c.test-in-Switch.new.facts.items) c.in_err-at-in-Switch.ensures.gives)

pub statement-returns-in_err-switched-in-Switch-clause-gives : goal.statement-returns-in_err-switched-in-Switch-clause-gives
statement-returns-in_err-switched-in-Switch-clause-gives t c =
    let f = c.in-Switch in
    let x = c.args.x.now in
    let ls = c.args.locals.now in
    let b = body_in c.args.p.now ls in
    let e = c.in_err-switched-in-Switch.field-0.0 in
    let same : c.from_residual-in_err-switched-in-Switch.result ≡ Err e = search rules in
    let old = map fact_of c.args.facts.now.items in
    let mid = map fact_of c.test-in-Switch.new.facts.items in
    let new = map fact_of c.switched-in-Switch.new.facts.items in
    let kind = c.kind_of-kind.result in
    let kinds = c.kind_of-kind.ensures ∙ ap (λ (z : Fact). kind_of z.ty) c.fact.ensures.is in
    let is = ap (λ (z : List Section). sections_typed (body_in c.switched.result ls) kind unlabelled (sections (map view_section z))) c.as_slice-in-Switch.ensures ∙ ap (λ (z : Body). sections_typed z kind unlabelled (sections (map view_section f.list))) (c.switched.ensures.is ls) in
    rw (switch_typed b x f.e f.list f.is, same)
    (switch_second b (out-Stmt x).node.number (view_expression f.e) (sections (map view_section f.list)) c.in_ok-at-in-Switch.at kind e old mid new c.in_ok-at-in-Switch.ensures.gives kinds
    (again AnyLabels _ (sections_typed (switched b) kind unlabelled (sections (map view_section f.list))) (Err e) mid new is c.in_err-switched-in-Switch.ensures.gives))

pub statement-by_switch-requires : goal.statement-by_switch-requires
statement-by_switch-requires t c =
    let f = c.in-Switch in
    let b = body_in c.args.p.now c.args.locals.now in
    let old = map fact_of c.args.facts.now.items in
    let mid = map fact_of c.test-in-Switch.new.facts.items in
    let new = map fact_of c.switched-in-Switch.new.facts.items in
    let i = c.in_ok-at-in-Switch.at in
    let first : i < length mid = below (expression_typed b.scope (view_expression f.e)) i old mid c.in_ok-at-in-Switch.ensures.gives in
    let last : i < length new = still AnyLabels _ c.in_ok-switched-in-Switch.field-0 i mid new first c.in_ok-switched-in-Switch.ensures.gives in
    omega (arith, last, length-map c.switched-in-Switch.new.facts.items fact_of, c.switched-in-Switch.new.facts.ok.0)

pub statement-returns-in_ok-switched-in-Switch-clause-gives : goal.statement-returns-in_ok-switched-in-Switch-clause-gives
statement-returns-in_ok-switched-in-Switch-clause-gives t c =
    let f = c.in-Switch in
    let x = c.args.x.now in
    let ls = c.args.locals.now in
    let b = body_in c.args.p.now ls in
    let old = map fact_of c.args.facts.now.items in
    let mid = map fact_of c.test-in-Switch.new.facts.items in
    let next = map fact_of c.switched-in-Switch.new.facts.items in
    let kind = c.kind_of-kind.result in
    let kinds = c.kind_of-kind.ensures ∙ ap (λ (z : Fact). kind_of z.ty) c.fact.ensures.is in
    let is = ap (λ (z : List Section). sections_typed (body_in c.switched.result ls) kind unlabelled (sections (map view_section z))) c.as_slice-in-Switch.ensures ∙ ap (λ (z : Body). sections_typed z kind unlabelled (sections (map view_section f.list))) (c.switched.ensures.is ls) in
    rw (switch_typed b x f.e f.list f.is)
    (switch_whole b (out-Stmt x).node.number (view_expression f.e) (sections (map view_section f.list)) c.in_ok-at-in-Switch.at kind c.in_ok-switched-in-Switch.field-0 c.by_switch.result old mid next (map fact_of c.by_switch.new.facts.items) c.in_ok-at-in-Switch.ensures.gives kinds
    (again AnyLabels _ (sections_typed (switched b) kind unlabelled (sections (map view_section f.list))) (Ok c.in_ok-switched-in-Switch.field-0) mid next is c.in_ok-switched-in-Switch.ensures.gives) c.by_switch.ensures.gives)

-- ---- `while`
pub statement-returns-in_err-at-in-While-clause-gives : goal.statement-returns-in_err-at-in-While-clause-gives
statement-returns-in_err-at-in-While-clause-gives t c =
    let f = c.in-While in
    let x = c.args.x.now in
    let b = body_in c.args.p.now c.args.locals.now in
    let e = c.in_err-at-in-While.field-0.0 in
    let same : c.from_residual-in_err-at-in-While.result ≡ Err e = search rules in
    rw (while_typed b x f.e f.y f.is, same)
    (while_first b (out-Stmt x).node.number (view_expression f.e) (view_statement f.y) e (map fact_of c.args.facts.now.items) (map fact_of c.test-in-While.new.facts.items) c.in_err-at-in-While.ensures.gives)

pub statement-returns-in_err-statement-in-While-clause-gives : goal.statement-returns-in_err-statement-in-While-clause-gives
statement-returns-in_err-statement-in-While-clause-gives t c =
    let f = c.in-While in
    let x = c.args.x.now in
    let ls = c.args.locals.now in
    let b = body_in c.args.p.now ls in
    let e = c.in_err-statement-in-While.field-0.0 in
    let same : c.from_residual-in_err-statement-in-While.result ≡ Err e = search rules in
    let old = map fact_of c.args.facts.now.items in
    let mid = map fact_of c.test-in-While.new.facts.items in
    let new = map fact_of c.statement-in-While.new.facts.items in
    let is = ap (λ (z : Stmt). statement_typed (body_in c.looped.result ls) (view_statement z)) c.get-in-While.ensures ∙ ap (λ (z : Body). statement_typed z (view_statement f.y)) (c.looped.ensures.is ls) in
    rw (while_typed b x f.e f.y f.is, same)
    (while_second b (out-Stmt x).node.number (view_expression f.e) (view_statement f.y) c.in_ok-at-in-While.at e old mid new c.in_ok-at-in-While.ensures.gives
    (again AnyFact _ (statement_typed (looped b) (view_statement f.y)) (Err e) mid new is c.in_err-statement-in-While.ensures.gives))

pub statement-by_test-requires-in-While : goal.statement-by_test-requires-in-While
statement-by_test-requires-in-While t c =
    let f = c.in-While in
    let b = body_in c.args.p.now c.args.locals.now in
    let old = map fact_of c.args.facts.now.items in
    let mid = map fact_of c.test-in-While.new.facts.items in
    let new = map fact_of c.statement-in-While.new.facts.items in
    let i = c.in_ok-at-in-While.at in
    let first : i < length mid = below (expression_typed b.scope (view_expression f.e)) i old mid c.in_ok-at-in-While.ensures.gives in
    let last : i < length new = still AnyFact _ c.in_ok-statement-in-While.field-0 i mid new first c.in_ok-statement-in-While.ensures.gives in
    omega (arith, last, length-map c.statement-in-While.new.facts.items fact_of, c.statement-in-While.new.facts.ok.0)

pub statement-returns-in_ok-statement-in-While-clause-gives : goal.statement-returns-in_ok-statement-in-While-clause-gives
statement-returns-in_ok-statement-in-While-clause-gives t c =
    let f = c.in-While in
    let x = c.args.x.now in
    let ls = c.args.locals.now in
    let b = body_in c.args.p.now ls in
    let old = map fact_of c.args.facts.now.items in
    let mid = map fact_of c.test-in-While.new.facts.items in
    let next = map fact_of c.statement-in-While.new.facts.items in
    let is = ap (λ (z : Stmt). statement_typed (body_in c.looped.result ls) (view_statement z)) c.get-in-While.ensures ∙ ap (λ (z : Body). statement_typed z (view_statement f.y)) (c.looped.ensures.is ls) in
    rw (while_typed b x f.e f.y f.is)
    (while_whole b (out-Stmt x).node.number (view_expression f.e) (view_statement f.y) c.in_ok-at-in-While.at c.in_ok-statement-in-While.field-0 c.by_test-in-While.result old mid next (map fact_of c.by_test-in-While.new.facts.items) c.in_ok-at-in-While.ensures.gives
    (again AnyFact _ (statement_typed (looped b) (view_statement f.y)) (Ok c.in_ok-statement-in-While.field-0) mid next is c.in_ok-statement-in-While.ensures.gives) c.by_test-in-While.ensures.gives)

-- ---- `do`
pub statement-returns-in_err-at-in-Do-clause-gives : goal.statement-returns-in_err-at-in-Do-clause-gives
statement-returns-in_err-at-in-Do-clause-gives t c =
    let f = c.in-Do in
    let x = c.args.x.now in
    let p = c.args.p.now in
    let ls = c.args.locals.now in
    let b = body_in p ls in
    let e = c.in_err-at-in-Do.field-0.0 in
    let same : c.from_residual-in_err-at-in-Do.result ≡ Err e = search rules in
    let old = map fact_of c.args.facts.now.items in
    let mid = map fact_of c.statement-in-Do.new.facts.items in
    let new = map fact_of c.test-in-Do.new.facts.items in
    let is = ap (λ (z : Stmt). statement_typed (body_in c.looped-in-Do.result ls) (view_statement z)) c.get-in-Do.ensures ∙ ap (λ (z : Body). statement_typed z (view_statement f.y)) (c.looped-in-Do.ensures.is ls) in
    rw (do_typed b x f.y f.e f.is, same)
    (do_second b (out-Stmt x).node.number (view_statement f.y) (view_expression f.e) c.in_ok-statement-in-Do.field-0 e old mid new
    (again AnyFact _ (statement_typed (looped b) (view_statement f.y)) (Ok c.in_ok-statement-in-Do.field-0) old mid is c.in_ok-statement-in-Do.ensures.gives)
    (again (IsAt new) _ (expression_typed b.scope (view_expression f.e)) (Err e) mid new (ap (λ (z : List LocalName). expression_typed (body_in p z).scope (view_expression f.e)) c.in_ok-statement-in-Do.ensures.locals) c.in_err-at-in-Do.ensures.gives))

pub statement-returns-in_ok-at-in-Do-clause-gives : goal.statement-returns-in_ok-at-in-Do-clause-gives
statement-returns-in_ok-at-in-Do-clause-gives t c =
    let f = c.in-Do in
    let x = c.args.x.now in
    let p = c.args.p.now in
    let ls = c.args.locals.now in
    let b = body_in p ls in
    let old = map fact_of c.args.facts.now.items in
    let mid = map fact_of c.statement-in-Do.new.facts.items in
    let next = map fact_of c.test-in-Do.new.facts.items in
    let is = ap (λ (z : Stmt). statement_typed (body_in c.looped-in-Do.result ls) (view_statement z)) c.get-in-Do.ensures ∙ ap (λ (z : Body). statement_typed z (view_statement f.y)) (c.looped-in-Do.ensures.is ls) in
    rw (do_typed b x f.y f.e f.is)
    (do_whole b (out-Stmt x).node.number (view_statement f.y) (view_expression f.e) c.in_ok-statement-in-Do.field-0 c.in_ok-at-in-Do.at c.by_test-in-Do.result old mid next (map fact_of c.by_test-in-Do.new.facts.items)
    (again AnyFact _ (statement_typed (looped b) (view_statement f.y)) (Ok c.in_ok-statement-in-Do.field-0) old mid is c.in_ok-statement-in-Do.ensures.gives)
    (again (IsAt next) _ (expression_typed b.scope (view_expression f.e)) (Ok c.in_ok-at-in-Do.at) mid next (ap (λ (z : List LocalName). expression_typed (body_in p z).scope (view_expression f.e)) c.in_ok-statement-in-Do.ensures.locals) c.in_ok-at-in-Do.ensures.gives) c.by_test-in-Do.ensures.gives)

-- ---- `for`
pub statement-returns-in_err-tested-in-For-clause-gives : goal.statement-returns-in_err-tested-in-For-clause-gives
statement-returns-in_err-tested-in-For-clause-gives t c =
    let f = c.in-For in
    let x = c.args.x.now in
    let ls = c.args.locals.now in
    let inner = c.opened-inner.result in
    let b = body_in c.args.p.now ls in
    let next = body_in inner c.start.new.locals in
    let e = c.in_err-tested-in-For.field-0.0 in
    let same : c.from_residual-in_err-tested-in-For.result ≡ Err e = search rules in
    let old = map fact_of c.args.facts.now.items in
    let first = map fact_of c.start.new.facts.items in
    let new = map fact_of c.optional.new.facts.items in
    let before = map local_of ls in
    let now = map local_of c.start.new.locals in
    rw (for_typed b x f.first f.e f.step f.y f.is, same)
    (for_second b next (out-Stmt x).node.number (view_start f.first) (given_expression f.e) (given_expression f.step) (view_statement f.y) before now c.in_ok-at-in-For.at e old first new
    (again (IsStarted before now first) _ (start_typed (opened b) (view_start f.first)) (Ok c.in_ok-at-in-For.at) old first (ap (λ (z : Body). start_typed z (view_start f.first)) c.opened-inner.ensures.is) c.in_ok-at-in-For.ensures.gives)
    (λ more is. more_body inner ls c.start.new.locals more is ∙ ap (λ (z : Body). with_more z more) c.opened-inner.ensures.is) c.in_err-tested-in-For.ensures.gives)

pub statement-returns-in_err-stepped-in-For-clause-gives : goal.statement-returns-in_err-stepped-in-For-clause-gives
statement-returns-in_err-stepped-in-For-clause-gives t c =
    let f = c.in-For in
    let x = c.args.x.now in
    let ls = c.args.locals.now in
    let inner = c.opened-inner.result in
    let b = body_in c.args.p.now ls in
    let next = body_in inner c.start.new.locals in
    let e = c.in_err-stepped-in-For.field-0.0 in
    let same : c.from_residual-in_err-stepped-in-For.result ≡ Err e = search rules in
    let old = map fact_of c.args.facts.now.items in
    let first = map fact_of c.start.new.facts.items in
    let second = map fact_of c.optional.new.facts.items in
    let new = map fact_of c.optional-in-For.new.facts.items in
    let before = map local_of ls in
    let now = map local_of c.start.new.locals in
    rw (for_typed b x f.first f.e f.step f.y f.is, same)
    (for_third b next (out-Stmt x).node.number (view_start f.first) (given_expression f.e) (given_expression f.step) (view_statement f.y) before now c.in_ok-at-in-For.at c.in_ok-tested-in-For.tested e old first second new
    (again (IsStarted before now first) _ (start_typed (opened b) (view_start f.first)) (Ok c.in_ok-at-in-For.at) old first (ap (λ (z : Body). start_typed z (view_start f.first)) c.opened-inner.ensures.is) c.in_ok-at-in-For.ensures.gives)
    (λ more is. more_body inner ls c.start.new.locals more is ∙ ap (λ (z : Body). with_more z more) c.opened-inner.ensures.is) c.in_ok-tested-in-For.ensures.gives c.in_err-stepped-in-For.ensures.gives)

pub statement-returns-in_err-statement-in-For-clause-gives : goal.statement-returns-in_err-statement-in-For-clause-gives
statement-returns-in_err-statement-in-For-clause-gives t c =
    let f = c.in-For in
    let x = c.args.x.now in
    let ls = c.args.locals.now in
    let inner = c.opened-inner.result in
    let b = body_in c.args.p.now ls in
    let next = body_in inner c.start.new.locals in
    let e = c.in_err-statement-in-For.field-0.0 in
    let same : c.from_residual-in_err-statement-in-For.result ≡ Err e = search rules in
    let old = map fact_of c.args.facts.now.items in
    let first = map fact_of c.start.new.facts.items in
    let second = map fact_of c.optional.new.facts.items in
    let third = map fact_of c.optional-in-For.new.facts.items in
    let new = map fact_of c.statement-in-For.new.facts.items in
    let before = map local_of ls in
    let now = map local_of c.start.new.locals in
    let is = ap (λ (z : Stmt). statement_typed (body_in c.looped-in-For.result c.start.new.locals) (view_statement z)) c.get-in-For.ensures ∙ ap (λ (z : Body). statement_typed z (view_statement f.y)) (c.looped-in-For.ensures.is c.start.new.locals) in
    rw (for_typed b x f.first f.e f.step f.y f.is, same)
    (for_fourth b next (out-Stmt x).node.number (view_start f.first) (given_expression f.e) (given_expression f.step) (view_statement f.y) before now c.in_ok-at-in-For.at c.in_ok-tested-in-For.tested c.in_ok-stepped-in-For.stepped e old first second third new
    (again (IsStarted before now first) _ (start_typed (opened b) (view_start f.first)) (Ok c.in_ok-at-in-For.at) old first (ap (λ (z : Body). start_typed z (view_start f.first)) c.opened-inner.ensures.is) c.in_ok-at-in-For.ensures.gives)
    (λ more is. more_body inner ls c.start.new.locals more is ∙ ap (λ (z : Body). with_more z more) c.opened-inner.ensures.is) c.in_ok-tested-in-For.ensures.gives c.in_ok-stepped-in-For.ensures.gives
    (again AnyFact _ (statement_typed (looped next) (view_statement f.y)) (Err e) third new is c.in_err-statement-in-For.ensures.gives))

pub statement-by_for-requires-clause-first : goal.statement-by_for-requires-clause-first
statement-by_for-requires-clause-first t c =
    let f = c.in-For in
    let ls = c.args.locals.now in
    let inner = c.opened-inner.result in
    let old = map fact_of c.args.facts.now.items in
    let first = map fact_of c.start.new.facts.items in
    let second = map fact_of c.optional.new.facts.items in
    let third = map fact_of c.optional-in-For.new.facts.items in
    let last = map fact_of c.statement-in-For.new.facts.items in
    let i = c.in_ok-at-in-For.at in
    still_below AnyFact _ c.in_ok-statement-in-For.field-0 i third last c.in_ok-statement-in-For.ensures.gives
    (still_below (IsKnown third) _ c.in_ok-stepped-in-For.stepped i second third c.in_ok-stepped-in-For.ensures.gives
    (still_below (IsKnown second) _ c.in_ok-tested-in-For.tested i first second c.in_ok-tested-in-For.ensures.gives
    (started_below (start_typed (body_in inner ls) (view_start f.first)) (map local_of ls) (map local_of c.start.new.locals) i old first c.in_ok-at-in-For.ensures.gives)))

pub statement-returns-in_ok-statement-in-For-clause-gives : goal.statement-returns-in_ok-statement-in-For-clause-gives
statement-returns-in_ok-statement-in-For-clause-gives t c =
    let f = c.in-For in
    let x = c.args.x.now in
    let ls = c.args.locals.now in
    let inner = c.opened-inner.result in
    let b = body_in c.args.p.now ls in
    let next = body_in inner c.start.new.locals in
    let old = map fact_of c.args.facts.now.items in
    let first = map fact_of c.start.new.facts.items in
    let second = map fact_of c.optional.new.facts.items in
    let third = map fact_of c.optional-in-For.new.facts.items in
    let last = map fact_of c.statement-in-For.new.facts.items in
    let before = map local_of ls in
    let now = map local_of c.start.new.locals in
    let is = ap (λ (z : Stmt). statement_typed (body_in c.looped-in-For.result c.start.new.locals) (view_statement z)) c.get-in-For.ensures ∙ ap (λ (z : Body). statement_typed z (view_statement f.y)) (c.looped-in-For.ensures.is c.start.new.locals) in
    rw (for_typed b x f.first f.e f.step f.y f.is)
    (for_whole b next (out-Stmt x).node.number (view_start f.first) (given_expression f.e) (given_expression f.step) (view_statement f.y) before now c.in_ok-at-in-For.at c.in_ok-tested-in-For.tested c.in_ok-stepped-in-For.stepped c.in_ok-statement-in-For.field-0 c.by_for.result old first second third last (map fact_of c.by_for.new.facts.items)
    (again (IsStarted before now first) _ (start_typed (opened b) (view_start f.first)) (Ok c.in_ok-at-in-For.at) old first (ap (λ (z : Body). start_typed z (view_start f.first)) c.opened-inner.ensures.is) c.in_ok-at-in-For.ensures.gives)
    (λ more is. more_body inner ls c.start.new.locals more is ∙ ap (λ (z : Body). with_more z more) c.opened-inner.ensures.is) c.in_ok-tested-in-For.ensures.gives c.in_ok-stepped-in-For.ensures.gives
    (again AnyFact _ (statement_typed (looped next) (view_statement f.y)) (Ok c.in_ok-statement-in-For.field-0) third last is c.in_ok-statement-in-For.ensures.gives) c.by_for.ensures.gives)

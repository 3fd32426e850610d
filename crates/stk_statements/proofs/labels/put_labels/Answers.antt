use Rattle.std.proofs.Common.{◌≡◌, ◌+◌, [], Err, Ok, map, drop, sym, arith, rules}
use Rattle.std.proofs.lemmas.List.{drop_all}
use Rattle.stk_tree.specs.View.{labels, view_label}
use Rattle.stk_type_rules.specs.Facts.{fact_of}
use Rattle.stk_type_rules.proofs.Steps.{stops}
use Rattle.stk_typing.proofs.Turns.{next_of, nil}
use Rattle.stk_statements.specs.Places.{body_in}
use Rattle.stk_function_types.specs.Sections.{label_typed, labels_typed}
use Rattle.stk_statements.proofs.Turns.{Labels_are, labels_turn}
use Rattle.stk_statements.proofs.labels.put_labels.Goals as goal

pub loop-x-preserved : goal.loop-x-preserved
loop-x-preserved c =
    let step = next_of c.args.list.now c.loop-x.x-index c.x-item.result c.loop-x-test.true c.x-item.is in
    let scope = (body_in c.args.p.now c.args.locals.now).scope in
    record {
      sound = c.in_ok-label.ensures.sound;
      rest = λ result new now h m is.
          c.loop-x.invariant.rest result new now
          (λ z isz. rw step (labels_turn scope c.args.kind z (view_label c.x-item.result) (labels (map view_label (drop (c.loop-x.x-index + 1) c.args.list.now))) c.label.new.all now c.in_ok-label.field-0 result (map fact_of c.loop-x.facts.items) (map fact_of c.label.new.facts.items) new (c.in_ok-label.ensures.gives z isz) h)) m is;
    }

pub returns-in_err-label-clause-gives : goal.returns-in_err-label-clause-gives
returns-in_err-label-clause-gives c = λ l is.
    let same : c.from_residual.result ≡ Err c.in_err-label.field-0.0 = search rules in
    let step = next_of c.args.list.now c.loop-x.x-index c.x-item.result c.loop-x-test.true c.x-item.is in
    let scope = (body_in c.args.p.now c.args.locals.now).scope in
    rw same
    (c.loop-x.invariant.rest (Err c.in_err-label.field-0.0) (map fact_of c.label.new.facts.items) c.label.new.all
    (λ z isz. rw step (stops (Labels_are c.label.new.all) (Labels_are c.label.new.all) (label_typed scope c.args.kind z (view_label c.x-item.result)) (λ m. labels_typed scope c.args.kind m (labels (map view_label (drop (c.loop-x.x-index + 1) c.args.list.now)))) c.in_err-label.field-0.0 (map fact_of c.loop-x.facts.items) (map fact_of c.label.new.facts.items) (map fact_of c.loop-x.facts.items) (map fact_of c.label.new.facts.items) (c.in_err-label.ensures.gives z isz))) l is)

pub returns-clause-gives : goal.returns-clause-gives
returns-clause-gives c = λ l is.
    let none : drop c.loop-x.x-index c.args.list.now ≡ [] = drop_all c.loop-x.x-index c.args.list.now (omega (arith, c.loop-x-test.false)) in
    c.loop-x.invariant.rest (Ok tt) (map fact_of c.loop-x.facts.items) c.loop-x.all (λ z isz. rw none (sym (nil (map fact_of c.loop-x.facts.items)), isz)) l is

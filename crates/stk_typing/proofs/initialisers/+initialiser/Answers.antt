use Rattle.std.proofs.Common.{◌≡◌, ◌+◌, map, drop, ap, ◌∙◌, Err, rules}
use Rattle.stk_tree.specs.declared.declaration.Item.{out-Item}
use Rattle.stk_tree.specs.View.{designators, items, view_designator, view_expression, view_initialiser, view_item}
use Rattle.stk_type_rules.specs.Facts.{fact_of}
use Rattle.stk_type_rules.specs.Outcome.{IsAt}
use Rattle.stk_type_rules.proofs.Steps.{stops}
use Rattle.stk_typing.specs.Scope.{scope_of}
use Rattle.stk_typing.specs.Typing.{expression_typed}
use Rattle.stk_typing.proofs.Turns.{next_of}
use Rattle.stk_typing.specs.Leaves.{leaf}
use Rattle.stk_typing.specs.InitialiserTyping.{designators_typed, initialiser_typed}
use Rattle.stk_typing.proofs.InitialiserTurns.{AreLeaves, items_turn, leaf_gives, then_gives}
use Rattle.stk_typing.proofs.InitialiserViews.{plain_typed, parts_typed}
use Rattle.stk_typing.proofs.initialisers.+initialiser.Goals as goal

pub initialiser-returns-in_ok-at-in-Plain-clause-gives : goal.initialiser-returns-in_ok-at-in-Plain-clause-gives
initialiser-returns-in_ok-at-in-Plain-clause-gives t c =
    rw (plain_typed (scope_of c.args.s.now) c.args.i.now c.in-Plain.e c.in-Plain.is)
    (leaf_gives (expression_typed (scope_of c.args.s.now) (view_expression c.in-Plain.e)) c.in_ok-at-in-Plain.at c.of.result _ _ c.in_ok-at-in-Plain.ensures.gives (c.of.ensures ∙ ap leaf c.fact.ensures.is))

pub initialiser-returns-in_err-at-in-Plain-clause-gives : goal.initialiser-returns-in_err-at-in-Plain-clause-gives
initialiser-returns-in_err-at-in-Plain-clause-gives t c =
    let same : c.from_residual.result ≡ Err c.in_err-at-in-Plain.field-0.0 = search rules in
    rw (plain_typed (scope_of c.args.s.now) c.args.i.now c.in-Plain.e c.in-Plain.is, same)
    (stops (IsAt (map fact_of c.expression.new.facts.items)) AreLeaves (expression_typed (scope_of c.args.s.now) (view_expression c.in-Plain.e)) _ _ _ _ _ _ c.in_err-at-in-Plain.ensures.gives)

pub item-returns-clause-gives : goal.item-returns-clause-gives
item-returns-clause-gives t c =
    rw (parts_typed (scope_of c.args.s.now) c.args.i.now, ← c.unevaluated.ensures.is, ← c.as_slice.ensures)
    (then_gives (designators_typed (scope_of c.unevaluated.result) (designators (map view_designator c.as_slice.result.now))) (initialiser_typed (scope_of c.args.s.now) (view_initialiser (out-Item c.args.i.now).init)) c.in_ok-designators.field-0 c.initialiser.result _ (map fact_of c.designators.new.facts.items) _ c.in_ok-designators.ensures.gives c.initialiser.ensures.gives)

pub items-loop-i-preserved : goal.items-loop-i-preserved
items-loop-i-preserved t c =
    let step = next_of c.args.list.now c.loop-i.i-index c.i-item.result c.loop-i-test.true c.i-item.is in
    record {
      sound = c.in_ok-leaves.ensures.sound;
      rest = λ result new h.
          c.loop-i.invariant.rest result new
          (rw step (items_turn (scope_of c.args.s.now) c.loop-i.all c.merged-all.result (view_item c.i-item.result) (items (map view_item (drop (c.loop-i.i-index + 1) c.args.list.now))) c.in_ok-leaves.leaves result (map fact_of c.loop-i.facts.items) (map fact_of c.item.new.facts.items) new c.in_ok-leaves.ensures.gives c.merged-all.ensures h));
    }

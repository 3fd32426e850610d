use Rattle.std.proofs.Common.{◌+◌, map, drop}
use Rattle.stk_tree.specs.View.{designators, view_designator}
use Rattle.stk_type_rules.specs.Facts.{fact_of}
use Rattle.stk_typing.specs.Scope.{scope_of}
use Rattle.stk_typing.proofs.Turns.{next_of}
use Rattle.stk_typing.proofs.InitialiserTurns.{designators_turn}
use Rattle.stk_typing.proofs.initialisers.designators.Goals as goal

pub loop-d-preserved : goal.loop-d-preserved
loop-d-preserved c =
    let step = next_of c.args.list.now c.loop-d.d-index c.d-item.result c.loop-d-test.true c.d-item.is in
    record {
      sound = c.in_ok-designator.ensures.sound;
      rest = λ result new h.
          c.loop-d.invariant.rest result new
          (rw step (designators_turn (scope_of c.args.s.now) (view_designator c.d-item.result) (designators (map view_designator (drop (c.loop-d.d-index + 1) c.args.list.now))) c.in_ok-designator.field-0 result (map fact_of c.loop-d.facts.items) (map fact_of c.designator.new.facts.items) new c.in_ok-designator.ensures.gives h));
    }

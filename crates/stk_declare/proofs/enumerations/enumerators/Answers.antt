use Rattle.std.proofs.Common.{◌+◌, drop, map}
use Rattle.stk_tree.specs.View.{enumerators, view_enumerator}
use Rattle.stk_typing.proofs.Turns.{next_of}
use Rattle.stk_declare.specs.Shown.{enumerated}
use Rattle.stk_declare.proofs.Extending.{extends_twice}
use Rattle.stk_declare.proofs.Rows.{enumerators_turn}
use Rattle.stk_declare.proofs.enumerations.enumerators.Goals as goal

pub loop-e-preserved : goal.loop-e-preserved
loop-e-preserved c =
    let step = next_of c.args.list.now c.loop-e.e-index c.e-item.result c.loop-e-test.true c.e-item.is in
    record {
      extends = extends_twice c.args.names.now c.loop-e.names c.enumerator.new.names c.loop-e.invariant.extends c.in_ok-counter.ensures.extends;
      rest = λ result now h.
          c.loop-e.invariant.rest result now
          (rw step (enumerators_turn c.args.bytes.now (enumerated c.loop-e.names c.loop-e.counter) c.enumerator.new.names now (view_enumerator c.e-item.result)
          (enumerators (map view_enumerator (drop (c.loop-e.e-index + 1) c.args.list.now))) c.in_ok-counter.counter result c.in_ok-counter.ensures.gives h));
    }

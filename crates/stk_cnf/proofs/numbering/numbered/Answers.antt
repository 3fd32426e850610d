use Rattle.std.proofs.Common.{◌≡◌, subst, sym, ◌∙◌, arith}
use Rattle.std.proofs.lemmas.Bool.{false≢true}
use Rattle.stk_gates.specs.Tables.{gate_count}
use Rattle.stk_cnf.specs.Naming.{IsNumberedTo}
use Rattle.stk_cnf.proofs.Up.{numbered_past, numbered_more}
use Rattle.stk_cnf.proofs.numbering.numbered.Goals as goal

pub loop-gate-preserved-then-not-marks-gate : goal.loop-gate-preserved-then-not-marks-gate
loop-gate-preserved-then-not-marks-gate c =
    let t = c.args.gates.now in
    let old = c.loop-gate.invariant in
    record {
      numbered =
          rw (c.push_reserved-in-loop-gate.ensures.items)
          (numbered_past t c.args.marks.now c.loop-gate.names.items c.loop-gate.ands.items c.loop-gate.vars c.loop-gate.gate (λ h. false≢true (sym c.if-not-marks-gate.true ∙ h)) (omega (arith, c.loop-gate.auto.gate, c.inputs-inputs.ensures)) old.numbered);
      names_room = omega (arith, old.names_room, c.push_reserved-in-loop-gate.ensures.capacity);
      ands_room = old.ands_room;
    }

pub loop-gate-preserved : goal.loop-gate-preserved
loop-gate-preserved c =
    let t = c.args.gates.now in
    let old = c.loop-gate.invariant in
    record {
      numbered =
          rw (c.push_reserved-in-loop-gate.ensures.items, c.push_reserved-in-loop-gate-2.ensures.items)
          (numbered_more t c.args.marks.now c.loop-gate.names.items c.loop-gate.ands.items c.loop-gate.vars c.loop-gate.gate c.if-not-marks-gate.false (omega (arith, c.loop-gate.auto.gate, c.inputs-inputs.ensures)) old.numbered);
      names_room = omega (arith, old.names_room, c.push_reserved-in-loop-gate.ensures.capacity);
      ands_room = omega (arith, old.ands_room, c.push_reserved-in-loop-gate-2.ensures.capacity);
    }

pub returns : goal.returns
returns c =
    let t = c.args.gates.now in
    let e : c.loop-gate.gate ≡ gate_count t = omega (arith, c.loop-gate-test.false, c.loop-gate.auto.gate-end, c.count-count.ensures.count, c.inputs-inputs.ensures) in
    subst (λ n. IsNumberedTo t c.args.marks.now c.loop-gate.names.items c.loop-gate.ands.items c.loop-gate.vars n) e c.loop-gate.invariant.numbered

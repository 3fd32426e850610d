use Rattle.std.proofs.Common.{true, ◌+◌, ◌-◌, ◌/◌, arith}
use Rattle.std.proofs.Math.ListN.{length-set}
use Rattle.stk_cnf.proofs.Down.{operands_marked, pair_at}
use Rattle.stk_cnf.proofs.depending.mark_operands.Goals as goal

pub bounds-marks-a : goal.bounds-marks-a
bounds-marks-a c =
    let at = pair_at c.args.gates.now c.args.gate c.in-Some.a c.in-Some.b c.operands.result c.in-Some.is c.operands.ensures.below c.operands.ensures.within c.count.ensures.ordered in
    omega (arith, at.2, c.requires.exists, c.requires.marked.sized)

pub bounds-marks-b : goal.bounds-marks-b
bounds-marks-b c =
    let at = pair_at c.args.gates.now c.args.gate c.in-Some.a c.in-Some.b c.operands.result c.in-Some.is c.operands.ensures.below c.operands.ensures.within c.count.ensures.ordered in
    omega (arith, at.3, c.requires.exists, c.requires.marked.sized, length-set c.args.marks.now (c.in-Some.a.0 / 2) true)

pub returns-in-Some : goal.returns-in-Some
returns-in-Some c =
    let t = c.args.gates.now in
    let at = pair_at t c.args.gate c.in-Some.a c.in-Some.b c.operands.result c.in-Some.is c.operands.ensures.below c.operands.ensures.within c.count.ensures.ordered in
    operands_marked t c.args._goal c.args.marks.now c.args.gate (c.args.gate - (1 + t.inputs)) (c.in-Some.a, c.in-Some.b) at.0 at.1 at.2 at.3 (omega (arith, c.requires.exists, c.requires.marked.sized)) c.if-not-marks-gate.false c.requires.marked

use Rattle.std.proofs.Common.{refl}
use Rattle.stk_bundles.proofs.Visited.{unit_written, ok_then, err_then, fault_then}
use Rattle.stk_bundles.proofs.units.write_unit_part.Goals as goal

pub returns-in-Ok-clause-written : goal.returns-in-Ok-clause-written
returns-in-Ok-clause-written g c =
    let u = c.args.unit.now in
    ok_then c.visit_unit.result _ c.in-Ok.is
    (unit_written g.K.Sink.taken g.K.Sink.faults g.D.Decider.given_up u.input.now u.without u.mark c.args.names.now c.visit_unit.new.names u.body u.tokens.now c.visit_unit.result _ c.visit_unit.new.visitor c.args.out.now c.visit_unit.new.out c.args.decider.now c.visit_unit.new.asked c.nothing.ensures c.visit_unit.ensures.visited).written

pub returns-in-Ok-clause-later : goal.returns-in-Ok-clause-later
returns-in-Ok-clause-later g c =
    let u = c.args.unit.now in
    (unit_written g.K.Sink.taken g.K.Sink.faults g.D.Decider.given_up u.input.now u.without u.mark c.args.names.now c.visit_unit.new.names u.body u.tokens.now c.visit_unit.result _ c.visit_unit.new.visitor c.args.out.now c.visit_unit.new.out c.args.decider.now c.visit_unit.new.asked c.nothing.ensures c.visit_unit.ensures.visited).later

pub returns-in-Ok-clause-given_up : goal.returns-in-Ok-clause-given_up
returns-in-Ok-clause-given_up g c =
    let u = c.args.unit.now in
    (unit_written g.K.Sink.taken g.K.Sink.faults g.D.Decider.given_up u.input.now u.without u.mark c.args.names.now c.visit_unit.new.names u.body u.tokens.now c.visit_unit.result _ c.visit_unit.new.visitor c.args.out.now c.visit_unit.new.out c.args.decider.now c.visit_unit.new.asked c.nothing.ensures c.visit_unit.ensures.visited).given_up

pub returns-in-Err-clause-stopped : goal.returns-in-Err-clause-stopped
returns-in-Err-clause-stopped g c =
    let u = c.args.unit.now in
    err_then c.visit_unit.result _ c.in-Err.is
    (unit_written g.K.Sink.taken g.K.Sink.faults g.D.Decider.given_up u.input.now u.without u.mark c.args.names.now c.visit_unit.new.names u.body u.tokens.now c.visit_unit.result _ c.visit_unit.new.visitor c.args.out.now c.visit_unit.new.out c.args.decider.now c.visit_unit.new.asked c.nothing.ensures c.visit_unit.ensures.visited).stopped

pub returns-in-Err-clause-later : goal.returns-in-Err-clause-later
returns-in-Err-clause-later g c =
    let u = c.args.unit.now in
    (unit_written g.K.Sink.taken g.K.Sink.faults g.D.Decider.given_up u.input.now u.without u.mark c.args.names.now c.visit_unit.new.names u.body u.tokens.now c.visit_unit.result _ c.visit_unit.new.visitor c.args.out.now c.visit_unit.new.out c.args.decider.now c.visit_unit.new.asked c.nothing.ensures c.visit_unit.ensures.visited).later

pub returns-in-Err-clause-fault : goal.returns-in-Err-clause-fault
returns-in-Err-clause-fault g c =
    let u = c.args.unit.now in
    λ k. fault_then c.visit_unit.result _ c.in-Err.is
    (unit_written g.K.Sink.taken g.K.Sink.faults g.D.Decider.given_up u.input.now u.without u.mark c.args.names.now c.visit_unit.new.names u.body u.tokens.now c.visit_unit.result _ c.visit_unit.new.visitor c.args.out.now c.visit_unit.new.out c.args.decider.now c.visit_unit.new.asked c.nothing.ensures c.visit_unit.ensures.visited).fault refl k

pub returns-in-Err-clause-given_up : goal.returns-in-Err-clause-given_up
returns-in-Err-clause-given_up g c =
    let u = c.args.unit.now in
    (unit_written g.K.Sink.taken g.K.Sink.faults g.D.Decider.given_up u.input.now u.without u.mark c.args.names.now c.visit_unit.new.names u.body u.tokens.now c.visit_unit.result _ c.visit_unit.new.visitor c.args.out.now c.visit_unit.new.out c.args.decider.now c.visit_unit.new.asked c.nothing.ensures c.visit_unit.ensures.visited).given_up

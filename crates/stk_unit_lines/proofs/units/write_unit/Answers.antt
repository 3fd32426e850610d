use Rattle.std.proofs.Common.{refl}
use Rattle.stk_unit_lines.proofs.Visited.{unit_written, ok_then, err_then, fault_then}
use Rattle.stk_unit_lines.proofs.units.write_unit.Goals as goal

pub returns-in-Ok-clause-written : goal.returns-in-Ok-clause-written
returns-in-Ok-clause-written g c =
    let file = c.args.file.now in
    ok_then c.visit_unit.result _ c.in-Ok.is
    (unit_written g.K.Sink.taken g.K.Sink.faults g.D.Decider.given_up file.input.now c.args.mark c.args.names.now c.visit_unit.new.names c.args.body c.args.tokens.now c.visit_unit.result _ c.visit_unit.new.visitor c.args.out.now c.visit_unit.new.out c.args.decider.now c.visit_unit.new.asked c.nothing.ensures c.requires.names c.requires.some c.visit_unit.ensures.visited).written

pub returns-in-Ok-clause-later : goal.returns-in-Ok-clause-later
returns-in-Ok-clause-later g c =
    let file = c.args.file.now in
    (unit_written g.K.Sink.taken g.K.Sink.faults g.D.Decider.given_up file.input.now c.args.mark c.args.names.now c.visit_unit.new.names c.args.body c.args.tokens.now c.visit_unit.result _ c.visit_unit.new.visitor c.args.out.now c.visit_unit.new.out c.args.decider.now c.visit_unit.new.asked c.nothing.ensures c.requires.names c.requires.some c.visit_unit.ensures.visited).later

pub returns-in-Ok-clause-given_up : goal.returns-in-Ok-clause-given_up
returns-in-Ok-clause-given_up g c =
    let file = c.args.file.now in
    (unit_written g.K.Sink.taken g.K.Sink.faults g.D.Decider.given_up file.input.now c.args.mark c.args.names.now c.visit_unit.new.names c.args.body c.args.tokens.now c.visit_unit.result _ c.visit_unit.new.visitor c.args.out.now c.visit_unit.new.out c.args.decider.now c.visit_unit.new.asked c.nothing.ensures c.requires.names c.requires.some c.visit_unit.ensures.visited).given_up

pub returns-in-Err-clause-prefix : goal.returns-in-Err-clause-prefix
returns-in-Err-clause-prefix g c =
    let file = c.args.file.now in
    err_then c.visit_unit.result _ c.in-Err.is
    (unit_written g.K.Sink.taken g.K.Sink.faults g.D.Decider.given_up file.input.now c.args.mark c.args.names.now c.visit_unit.new.names c.args.body c.args.tokens.now c.visit_unit.result _ c.visit_unit.new.visitor c.args.out.now c.visit_unit.new.out c.args.decider.now c.visit_unit.new.asked c.nothing.ensures c.requires.names c.requires.some c.visit_unit.ensures.visited).prefix

pub returns-in-Err-clause-later : goal.returns-in-Err-clause-later
returns-in-Err-clause-later g c =
    let file = c.args.file.now in
    (unit_written g.K.Sink.taken g.K.Sink.faults g.D.Decider.given_up file.input.now c.args.mark c.args.names.now c.visit_unit.new.names c.args.body c.args.tokens.now c.visit_unit.result _ c.visit_unit.new.visitor c.args.out.now c.visit_unit.new.out c.args.decider.now c.visit_unit.new.asked c.nothing.ensures c.requires.names c.requires.some c.visit_unit.ensures.visited).later

pub returns-in-Err-clause-fault : goal.returns-in-Err-clause-fault
returns-in-Err-clause-fault g c =
    let file = c.args.file.now in
    λ k. fault_then c.visit_unit.result _ c.in-Err.is
    (unit_written g.K.Sink.taken g.K.Sink.faults g.D.Decider.given_up file.input.now c.args.mark c.args.names.now c.visit_unit.new.names c.args.body c.args.tokens.now c.visit_unit.result _ c.visit_unit.new.visitor c.args.out.now c.visit_unit.new.out c.args.decider.now c.visit_unit.new.asked c.nothing.ensures c.requires.names c.requires.some c.visit_unit.ensures.visited).fault refl k

pub returns-in-Err-clause-given_up : goal.returns-in-Err-clause-given_up
returns-in-Err-clause-given_up g c =
    let file = c.args.file.now in
    (unit_written g.K.Sink.taken g.K.Sink.faults g.D.Decider.given_up file.input.now c.args.mark c.args.names.now c.visit_unit.new.names c.args.body c.args.tokens.now c.visit_unit.result _ c.visit_unit.new.visitor c.args.out.now c.visit_unit.new.out c.args.decider.now c.visit_unit.new.asked c.nothing.ensures c.requires.names c.requires.some c.visit_unit.ensures.visited).given_up

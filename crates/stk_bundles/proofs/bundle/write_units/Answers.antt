use Rattle.std.proofs.Common.{arith}
use Rattle.stk_units.specs.Said.{AreToldFirst}
use Rattle.stk_units.proofs.Going.{none_so_far, so_far_few, all_told, next_unit, unit_some}
use Rattle.stk_bundles.specs.Units.{said_text, said_marks, IsUnitPart, IsUnitBegun}
use Rattle.stk_bundles.proofs.Told.{units_are_told}
use Rattle.stk_bundles.proofs.Following.{unit_told, told_few, unit_stops}
use Rattle.stk_bundles.proofs.Placing.{on_err}
use Rattle.stk_bundles.proofs.bundle.write_units.Goals as goal

pub loop-piece-init : goal.loop-piece-init
loop-piece-init g c =
    let f = c.args.file.now in
    record {
      so_far = rw (c.nothing-counts.ensures, c.new-names.ensures) (none_so_far (IsUnitPart f.input.now f.without f.budget) (IsUnitBegun f.input.now f.without f.budget) said_text said_marks (units_are_told f.input.now f.without f.budget) c.args.tokens.now c.args.pieces.now (g.K.Sink.taken c.args.out.now) (g.D.Decider.given_up c.args.decider.now) c.requires.joined);
      later = omega arith;
    }

pub tokens_of-requires : goal.tokens_of-requires
tokens_of-requires g c =
    let f = c.args.file.now in
    let n = next_unit (IsUnitPart f.input.now f.without f.budget) (IsUnitBegun f.input.now f.without f.budget) said_text said_marks (units_are_told f.input.now f.without f.budget) c.args.tokens.now c.args.pieces.now (g.K.Sink.taken c.args.out.now) (g.D.Decider.given_up c.args.decider.now)
    c.loop-piece.piece-index (g.K.Sink.taken c.loop-piece.out) (g.D.Decider.given_up c.loop-piece.decider) c.loop-piece.counts c.loop-piece.names c.loop-piece.invariant.so_far _ c.loop-piece-test.true in
    (omega (arith, n.some), n.within)

pub write_unit_part-requires-clause-some : goal.write_unit_part-requires-clause-some
write_unit_part-requires-clause-some g c =
    let f = c.args.file.now in
    rw c.tokens_of.ensures
    (unit_some (IsUnitPart f.input.now f.without f.budget) (IsUnitBegun f.input.now f.without f.budget) said_text said_marks (units_are_told f.input.now f.without f.budget) c.args.tokens.now c.args.pieces.now (g.K.Sink.taken c.args.out.now) (g.D.Decider.given_up c.args.decider.now)
    c.loop-piece.piece-index (g.K.Sink.taken c.loop-piece.out) (g.D.Decider.given_up c.loop-piece.decider) c.loop-piece.counts c.loop-piece.names c.loop-piece.invariant.so_far _ c.loop-piece-test.true)

pub write_unit_part-requires-clause-names : goal.write_unit_part-requires-clause-names
write_unit_part-requires-clause-names g c = c.loop-piece.invariant.so_far.orderly

pub returns-in_err-counted-clause-prefix : goal.returns-in_err-counted-clause-prefix
returns-in_err-counted-clause-prefix g c =
    let f = c.args.file.now in
    on_err c.from_residual.result (AreToldFirst (IsUnitPart f.input.now f.without f.budget) (IsUnitBegun f.input.now f.without f.budget) said_text c.args.tokens.now c.args.pieces.now (g.K.Sink.taken c.args.out.now) (g.K.Sink.taken c.write_unit_part.new.out))
    (unit_stops f.input.now f.without f.budget c.args.tokens.now c.args.pieces.now (g.K.Sink.taken c.args.out.now) (g.D.Decider.given_up c.args.decider.now) c.loop-piece.piece-index (g.K.Sink.taken c.loop-piece.out) (g.D.Decider.given_up c.loop-piece.decider) c.loop-piece.counts c.loop-piece.names _ c.loop-piece-test.true _ _ c.body_of_piece.ensures c.tokens_of.ensures
    c.loop-piece.invariant.so_far (g.K.Sink.taken c.write_unit_part.new.out) c.in_err-counted.ensures.stopped)

pub plus-counts-requires-clause-first : goal.plus-counts-requires-clause-first
plus-counts-requires-clause-first g c =
    let f = c.args.file.now in
    so_far_few (IsUnitPart f.input.now f.without f.budget) (IsUnitBegun f.input.now f.without f.budget) said_text said_marks (units_are_told f.input.now f.without f.budget) c.args.tokens.now c.args.pieces.now (g.K.Sink.taken c.args.out.now) (g.D.Decider.given_up c.args.decider.now)
    c.loop-piece.piece-index (g.K.Sink.taken c.loop-piece.out) (g.D.Decider.given_up c.loop-piece.decider) c.loop-piece.counts c.loop-piece.names c.loop-piece.invariant.so_far c.requires.few

pub plus-counts-requires-clause-second : goal.plus-counts-requires-clause-second
plus-counts-requires-clause-second g c =
    let f = c.args.file.now in
    told_few f.input.now f.without f.budget c.args.tokens.now c.args.pieces.now (g.K.Sink.taken c.args.out.now) (g.D.Decider.given_up c.args.decider.now) c.loop-piece.piece-index (g.K.Sink.taken c.loop-piece.out) (g.D.Decider.given_up c.loop-piece.decider) c.loop-piece.counts c.loop-piece.names _ c.loop-piece-test.true _ _ c.body_of_piece.ensures c.tokens_of.ensures
    c.loop-piece.invariant.so_far (g.K.Sink.taken c.write_unit_part.new.out) (g.D.Decider.given_up c.write_unit_part.new.decider) c.write_unit_part.new.names c.in_ok-counted.counted c.requires.few c.in_ok-counted.ensures.written

pub loop-piece-preserved : goal.loop-piece-preserved
loop-piece-preserved g c =
    let f = c.args.file.now in
    record {
      so_far = rw c.plus-counts.ensures
          (unit_told f.input.now f.without f.budget c.args.tokens.now c.args.pieces.now (g.K.Sink.taken c.args.out.now) (g.D.Decider.given_up c.args.decider.now) c.loop-piece.piece-index (g.K.Sink.taken c.loop-piece.out) (g.D.Decider.given_up c.loop-piece.decider) c.loop-piece.counts c.loop-piece.names _ c.loop-piece-test.true _ _ c.body_of_piece.ensures c.tokens_of.ensures
          c.loop-piece.invariant.so_far (g.K.Sink.taken c.write_unit_part.new.out) (g.D.Decider.given_up c.write_unit_part.new.decider) c.write_unit_part.new.names c.in_ok-counted.counted c.write_unit_part.ensures.given_up c.in_ok-counted.ensures.written);
      later = omega (arith, c.loop-piece.invariant.later, c.write_unit_part.ensures.later);
    }

pub returns-clause-written : goal.returns-clause-written
returns-clause-written g c =
    let f = c.args.file.now in
    all_told (IsUnitPart f.input.now f.without f.budget) (IsUnitBegun f.input.now f.without f.budget) said_text said_marks (units_are_told f.input.now f.without f.budget) c.args.tokens.now c.args.pieces.now (g.K.Sink.taken c.args.out.now) (g.D.Decider.given_up c.args.decider.now)
    c.loop-piece.piece-index (g.K.Sink.taken c.loop-piece.out) (g.D.Decider.given_up c.loop-piece.decider) c.loop-piece.counts c.loop-piece.names c.loop-piece.invariant.so_far (omega arith)

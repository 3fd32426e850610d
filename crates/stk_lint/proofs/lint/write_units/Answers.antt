use Rattle.std.proofs.Common.{arith}
use Rattle.stk_records.specs.Form.{written_records}
use Rattle.stk_units.proofs.Going.{none_so_far, so_far_few, all_told, next_unit, unit_some}
use Rattle.stk_unit_lines.specs.Marks.{lines_marks}
use Rattle.stk_lint.specs.LawfulText.{SaysLines}
use Rattle.stk_lint.specs.Judged.{WroteUnitsPrefix}
use Rattle.stk_lint.proofs.Going.{on_err, BeginsNothing, lines_are_told, one_more_unit, few_more, stops_in_unit}
use Rattle.stk_lint.proofs.lint.write_units.Goals as goal

pub loop-piece-init : goal.loop-piece-init
loop-piece-init g c =
    let f = c.args.file.now in
    record {
      so_far = rw (c.nothing-counts.ensures, c.new-names.ensures) (none_so_far (SaysLines f.input.now f.options) BeginsNothing (written_records f.options) lines_marks (lines_are_told f.input.now f.options) c.args.tokens.now c.args.pieces.now (g.K.Sink.taken c.args.out.now) (g.D.Decider.given_up c.args.decider.now) c.requires.joined);
      later = omega arith;
    }

pub tokens_of-unit-requires : goal.tokens_of-unit-requires
tokens_of-unit-requires g c =
    let f = c.args.file.now in
    let n = next_unit (SaysLines f.input.now f.options) BeginsNothing (written_records f.options) lines_marks (lines_are_told f.input.now f.options) c.args.tokens.now c.args.pieces.now (g.K.Sink.taken c.args.out.now) (g.D.Decider.given_up c.args.decider.now) c.loop-piece.piece-index (g.K.Sink.taken c.loop-piece.out) (g.D.Decider.given_up c.loop-piece.decider) c.loop-piece.counts c.loop-piece.names c.loop-piece.invariant.so_far _ c.loop-piece-test.true in
    (omega (arith, n.some), n.within)

pub write_unit-requires-clause-some : goal.write_unit-requires-clause-some
write_unit-requires-clause-some g c =
    let f = c.args.file.now in
    rw c.tokens_of-unit.ensures (unit_some (SaysLines f.input.now f.options) BeginsNothing (written_records f.options) lines_marks (lines_are_told f.input.now f.options) c.args.tokens.now c.args.pieces.now (g.K.Sink.taken c.args.out.now) (g.D.Decider.given_up c.args.decider.now) c.loop-piece.piece-index (g.K.Sink.taken c.loop-piece.out) (g.D.Decider.given_up c.loop-piece.decider) c.loop-piece.counts c.loop-piece.names c.loop-piece.invariant.so_far _ c.loop-piece-test.true)

pub write_unit-requires-clause-names : goal.write_unit-requires-clause-names
write_unit-requires-clause-names g c = c.loop-piece.invariant.so_far.orderly

pub returns-in_err-counted-clause-prefix : goal.returns-in_err-counted-clause-prefix
returns-in_err-counted-clause-prefix g c =
    let f = c.args.file.now in
    on_err c.from_residual.result (WroteUnitsPrefix f.input.now f.options c.args.tokens.now c.args.pieces.now (g.K.Sink.taken c.args.out.now) (g.K.Sink.taken c.write_unit.new.out))
    (stops_in_unit f.input.now f.options c.args.tokens.now c.args.pieces.now (g.K.Sink.taken c.args.out.now) (g.D.Decider.given_up c.args.decider.now) c.loop-piece.piece-index (g.K.Sink.taken c.loop-piece.out) (g.D.Decider.given_up c.loop-piece.decider) c.loop-piece.counts c.loop-piece.names _ c.loop-piece-test.true _ _ c.body_of_piece-body.ensures c.tokens_of-unit.ensures c.loop-piece.invariant.so_far (g.K.Sink.taken c.write_unit.new.out) c.in_err-counted.ensures.prefix)

pub plus-counts-requires-clause-first : goal.plus-counts-requires-clause-first
plus-counts-requires-clause-first g c =
    let f = c.args.file.now in
    so_far_few (SaysLines f.input.now f.options) BeginsNothing (written_records f.options) lines_marks (lines_are_told f.input.now f.options) c.args.tokens.now c.args.pieces.now (g.K.Sink.taken c.args.out.now) (g.D.Decider.given_up c.args.decider.now) c.loop-piece.piece-index (g.K.Sink.taken c.loop-piece.out) (g.D.Decider.given_up c.loop-piece.decider) c.loop-piece.counts c.loop-piece.names c.loop-piece.invariant.so_far c.requires.few

pub plus-counts-requires-clause-second : goal.plus-counts-requires-clause-second
plus-counts-requires-clause-second g c =
    let f = c.args.file.now in
    few_more f.input.now f.options c.args.tokens.now c.args.pieces.now (g.K.Sink.taken c.args.out.now) (g.D.Decider.given_up c.args.decider.now) c.loop-piece.piece-index (g.K.Sink.taken c.loop-piece.out) (g.D.Decider.given_up c.loop-piece.decider) c.loop-piece.counts c.loop-piece.names _ c.loop-piece-test.true _ _ c.body_of_piece-body.ensures c.tokens_of-unit.ensures c.loop-piece.invariant.so_far (g.K.Sink.taken c.write_unit.new.out) (g.D.Decider.given_up c.write_unit.new.decider) c.in_ok-counted.counted c.write_unit.new.names c.requires.few c.in_ok-counted.ensures.written

pub loop-piece-preserved : goal.loop-piece-preserved
loop-piece-preserved g c =
    let f = c.args.file.now in
    record {
      so_far = rw c.plus-counts.ensures
          (one_more_unit f.input.now f.options c.args.tokens.now c.args.pieces.now (g.K.Sink.taken c.args.out.now) (g.D.Decider.given_up c.args.decider.now) c.loop-piece.piece-index (g.K.Sink.taken c.loop-piece.out) (g.D.Decider.given_up c.loop-piece.decider) c.loop-piece.counts c.loop-piece.names _ c.loop-piece-test.true _ _ c.body_of_piece-body.ensures c.tokens_of-unit.ensures c.loop-piece.invariant.so_far (g.K.Sink.taken c.write_unit.new.out) (g.D.Decider.given_up c.write_unit.new.decider) c.in_ok-counted.counted c.write_unit.new.names c.write_unit.ensures.given_up c.in_ok-counted.ensures.written);
      later = omega (arith, c.loop-piece.invariant.later, c.write_unit.ensures.later);
    }

pub returns-clause-written : goal.returns-clause-written
returns-clause-written g c =
    let f = c.args.file.now in
    all_told (SaysLines f.input.now f.options) BeginsNothing (written_records f.options) lines_marks (lines_are_told f.input.now f.options) c.args.tokens.now c.args.pieces.now (g.K.Sink.taken c.args.out.now) (g.D.Decider.given_up c.args.decider.now) c.loop-piece.piece-index (g.K.Sink.taken c.loop-piece.out) (g.D.Decider.given_up c.loop-piece.decider) c.loop-piece.counts c.loop-piece.names c.loop-piece.invariant.so_far (omega arith)

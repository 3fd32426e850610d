use Rattle.std.proofs.Common.{get_or, false, None, sym, ◌∙◌, arith}
use Rattle.stk_units.proofs.Going.{piece_some}
use Rattle.stk_lint.proofs.Found.{none_searched, next_unit, one_more_searched, found_early, found_late}
use Rattle.stk_lint.proofs.scripts.search_units.Goals as goal

pub loop-piece-init : goal.loop-piece-init
loop-piece-init c = record {
  so_far = rw c.new-names.ensures (none_searched c.args.file.now.input.now c.args.file.now.options.without c.args.tokens.now c.args.pieces.now c.args.asked c.new-search.result c.requires.joined c.new-search.ensures.set c.new-search.ensures.behind);
}

pub returns-then-is_some : goal.returns-then-is_some
returns-then-is_some c =
    rw c.script_of.ensures
    (found_early c.args.file.now.input.now c.args.file.now.options.without c.args.tokens.now c.args.pieces.now c.args.asked c.loop-piece.piece-index c.loop-piece.names c.loop-piece.search c.loop-piece.invariant.so_far (sym c.is_some.ensures ∙ c.if-is_some.true))

pub tokens_of-requires : goal.tokens_of-requires
tokens_of-requires c =
    let n = next_unit c.args.file.now.input.now c.args.file.now.options.without c.args.tokens.now c.args.pieces.now c.args.asked c.loop-piece.piece-index _ c.loop-piece.names c.loop-piece.search c.loop-piece-test.true c.loop-piece.invariant.so_far in
    (omega (arith, n.some), n.within)

pub search_unit-requires-clause-names : goal.search_unit-requires-clause-names
search_unit-requires-clause-names c = c.loop-piece.invariant.so_far.orderly

pub search_unit-requires-clause-some : goal.search_unit-requires-clause-some
search_unit-requires-clause-some c =
    let n = next_unit c.args.file.now.input.now c.args.file.now.options.without c.args.tokens.now c.args.pieces.now c.args.asked c.loop-piece.piece-index _ c.loop-piece.names c.loop-piece.search c.loop-piece-test.true c.loop-piece.invariant.so_far in
    rw c.tokens_of.ensures (piece_some c.args.tokens.now (get_or c.args.pieces.now c.loop-piece.piece-index (record { from = 0; to = 0; body = None; no_return = false })) n.some n.within)

pub loop-piece-preserved : goal.loop-piece-preserved
loop-piece-preserved c = record {
  so_far = one_more_searched c.args.file.now.input.now c.args.file.now.options.without c.args.tokens.now c.args.pieces.now c.args.asked c.loop-piece.piece-index _ c.loop-piece.names c.search_unit.new.names c.loop-piece.search c.search_unit.new.search c.loop-piece-test.true c.loop-piece.invariant.so_far
      (rw (c.body_of_piece.ensures, c.tokens_of.ensures) at c.in_ok-search_unit.ensures.searched) c.in_ok-search_unit.ensures.orderly;
}

pub returns : goal.returns
returns c =
    rw c.script_of-2.ensures (found_late c.args.file.now.input.now c.args.file.now.options.without c.args.tokens.now c.args.pieces.now c.args.asked c.loop-piece.piece-index c.loop-piece.names c.loop-piece.search (omega arith) c.loop-piece.invariant.so_far)

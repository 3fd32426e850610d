use Rattle.std.proofs.Common.{◌≡◌, get_or, false, None, Err, sym, subst, ◌∙◌, arith, rules}
use Rattle.std.proofs.lemmas.List.{drop_all}
use Rattle.stk_units.proofs.Going.{piece_some}
use Rattle.stk_replay_input.specs.declared.unreplayed.Unreplayed.TheVariants.{NoMemory}
use Rattle.stk_replay_input.specs.Searches.{AnswersUnits, out_of_memory}
use Rattle.stk_replay_input.proofs.Searching.{none_is, next_unit, one_more_searched, found_early, found_late}
use Rattle.stk_replay_input.proofs.input.units_replay.Goals as goal

pub returns-then-is_some : goal.returns-then-is_some
returns-then-is_some c =
    rw c.answer_of.ensures
    (found_early c.args.input.now c.args.tokens.now c.args.pieces.now c.args.script.now _ c.loop-piece.names c.loop-piece.search.answer (sym c.is_some.ensures ∙ c.if-is_some.true) c.loop-piece.invariant.so_far.known)

pub tokens_of-requires : goal.tokens_of-requires
tokens_of-requires c =
    let n = next_unit c.args.input.now c.args.tokens.now c.args.pieces.now c.args.script.now c.loop-piece.piece-index _ c.loop-piece.names c.loop-piece.search c.loop-piece-test.true c.loop-piece.invariant.so_far in
    (omega (arith, n.some), n.within)

pub search_unit-requires-clause-some : goal.search_unit-requires-clause-some
search_unit-requires-clause-some c =
    let n = next_unit c.args.input.now c.args.tokens.now c.args.pieces.now c.args.script.now c.loop-piece.piece-index _ c.loop-piece.names c.loop-piece.search c.loop-piece-test.true c.loop-piece.invariant.so_far in
    rw c.tokens_of.ensures (piece_some c.args.tokens.now (get_or c.args.pieces.now c.loop-piece.piece-index (record { from = 0; to = 0; body = None; no_return = false })) n.some n.within)

pub returns-in_err-search_unit : goal.returns-in_err-search_unit
returns-in_err-search_unit c =
    let same : c.from_residual.result ≡ Err NoMemory = search rules in
    subst (AnswersUnits c.args.input.now c.args.tokens.now c.args.pieces.now c.args.script.now) (sym same) out_of_memory

pub loop-piece-preserved : goal.loop-piece-preserved
loop-piece-preserved c = record {
  so_far = one_more_searched c.args.input.now c.args.tokens.now c.args.pieces.now c.args.script.now c.loop-piece.piece-index _ c.loop-piece.names c.search_unit.new.names c.loop-piece.search c.search_unit.new.search c.loop-piece-test.true (none_is c.loop-piece.search.answer (sym c.is_some.ensures ∙ c.if-is_some.false)) c.loop-piece.invariant.so_far
      (rw (c.body_of_piece.ensures, c.tokens_of.ensures) at c.in_ok-search_unit.ensures.searched) c.in_ok-search_unit.ensures.orderly;
}

pub returns : goal.returns
returns c =
    rw c.answer_of-2.ensures (found_late c.args.input.now c.args.tokens.now c.args.pieces.now c.args.script.now _ c.loop-piece.names c.loop-piece.search.answer (drop_all c.loop-piece.piece-index c.args.pieces.now (omega arith)) c.loop-piece.invariant.so_far.known)

use Rattle.stk_lint.proofs.Found.{IsSearchedTo}
use Rattle.stk_lint.proofs.scripts.search_units.Given as goal

abbrev pub invariant-loop-piece : goal.invariant-loop-piece
invariant-loop-piece l = record {
  so_far : IsSearchedTo l.file.input.now l.file.options.without l.tokens l.pieces l.fn.asked l.piece-index l.names l.search;
}

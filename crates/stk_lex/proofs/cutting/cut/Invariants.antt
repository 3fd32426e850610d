use Rattle.std.proofs.Common.{length}
use Rattle.stk_lex.proofs.UnitCuts.{Cuts}
use Rattle.stk_lex.proofs.cutting.cut.Given as goal

abbrev pub invariant-loop-token : goal.invariant-loop-token
invariant-loop-token l = Cuts l.bytes l.skimmed.tokens l.skimmed.notes l.pieces.items l.notes l.unit l.rest

abbrev pub decreases-loop-token : goal.decreases-loop-token
decreases-loop-token l = length l.rest

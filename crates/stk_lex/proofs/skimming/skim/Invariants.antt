use Rattle.std.proofs.Common.{length}
use Rattle.stk_lex.proofs.Skims.{Skims}
use Rattle.stk_lex.proofs.skimming.skim.Given as goal

abbrev pub invariant-loop-token : goal.invariant-loop-token
invariant-loop-token l = Skims l.bytes l.tokens l.ends.items l.changes.items l.kept.items l.notes.items l.depth l.rest

abbrev pub decreases-loop-token : goal.decreases-loop-token
decreases-loop-token l = length l.rest

use Rattle.stk_lex.proofs.GapsLongest.{gap_is_longest}
use Rattle.stk_lex.proofs.lexing.gap_is_longest.Goals as goal

pub returns : goal.returns
returns c = gap_is_longest

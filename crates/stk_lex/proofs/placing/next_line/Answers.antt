use Rattle.stk_lex.proofs.Lines.{line_turns, line_stays}
use Rattle.stk_lex.proofs.placing.next_line.Goals as goal

pub returns-then-bytes-at-eq10 : goal.returns-then-bytes-at-eq10
returns-then-bytes-at-eq10 c = line_turns c.args.bytes.now c.args.at c.args.line c.requires.within c.if-bytes-at-eq10.true c.requires.none c.requires.line

pub returns-else-bytes-at-eq10 : goal.returns-else-bytes-at-eq10
returns-else-bytes-at-eq10 c = line_stays c.args.bytes.now c.args.at c.args.line c.requires.within c.if-bytes-at-eq10.false c.requires.none c.requires.line

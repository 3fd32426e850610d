use Rattle.stk_bundle.proofs.LineTexts.{no_word}
use Rattle.stk_bundle.proofs.reading.read_line.Goals as goal

pub returns-in-None-clause-bad : goal.returns-in-None-clause-bad
returns-in-None-clause-bad c is line h = no_word c.args.text.now c.cut_at.result.0.now c.cut_at.result.1.now c.cut_at.ensures c.in-None.ensures line h

use Rattle.std.proofs.Common.{drop}
use Rattle.stk_replay_script.proofs.StartTexts.{HasPassed}
use Rattle.stk_replay_script.proofs.starts.add_more.Given as goal

abbrev pub invariant-loop-key : goal.invariant-loop-key
invariant-loop-key l = HasPassed l.keys l.text (drop l.key-index l.keys) l.left l.initial.numbers.items l.numbers.items

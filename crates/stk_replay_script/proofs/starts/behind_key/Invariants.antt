use Rattle.std.proofs.Common.{drop}
use Rattle.stk_replay_script.proofs.StartTexts.{IsKeyPassed}
use Rattle.stk_replay_script.proofs.starts.behind_key.Given as goal

abbrev pub invariant-loop-byte : goal.invariant-loop-byte
invariant-loop-byte l = IsKeyPassed l.key l.text (drop l.byte-index l.key) l.left

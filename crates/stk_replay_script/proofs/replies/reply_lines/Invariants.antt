use Rattle.std.proofs.Common.{length}
use Rattle.std.specs.Prelude.{codes}
use Rattle.stk_replay_script.specs.Scripts.{reply_text, IsReply}
use Rattle.stk_replay_script.proofs.FieldTexts.{Passed}
use Rattle.stk_replay_script.proofs.replies.reply_lines.Given as goal

abbrev pub invariant-loop-content : goal.invariant-loop-content
invariant-loop-content l = Passed (codes "reply") reply_text IsReply l.text l.left l.replies.items

abbrev pub decreases-loop-content : goal.decreases-loop-content
decreases-loop-content l = length l.left

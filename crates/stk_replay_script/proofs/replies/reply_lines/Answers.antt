use Rattle.std.proofs.Common.{List, MatchOption, Option, sym, subst}
use Rattle.std.specs.Prelude.{codes}
use Rattle.stk_memory.specs.declared.image.Reply.{Reply}
use Rattle.stk_replay_script.specs.Scripts.{reply_text, IsReply}
use Rattle.stk_replay_script.specs.Fields.{IsReplyText}
use Rattle.stk_replay_script.proofs.FieldTexts.{Passed, one_passed, not_lines}
use Rattle.stk_replay_script.proofs.CellTexts.{plain_reply}
use Rattle.stk_replay_script.proofs.replies.reply_lines.Goals as goal

pub returns-in_default-2 : goal.returns-in_default-2
returns-in_default-2 c =
    let none = subst (λ (o : Option Reply). MatchOption o ((r : Reply) → IsReplyText c.in-Some.content.now r → ⊥) (IsReplyText c.in-Some.content.now)) c.in_default-2.is c.in_ok-reply.ensures in
    not_lines (codes "reply") reply_text IsReply plain_reply c.args.text.now c.loop-content.left.now c.in-Some.content.now c.in-Some.behind.now c.loop-content.replies.items c.loop-content.invariant c.in-Some.ensures
    (λ x is e. none x (record { same = e; is = is }))

pub loop-content-preserved : goal.loop-content-preserved
loop-content-preserved c =
    let one = subst (λ (o : Option Reply). MatchOption o ((r : Reply) → IsReplyText c.in-Some.content.now r → ⊥) (IsReplyText c.in-Some.content.now)) c.in-Some-2.is c.in_ok-reply.ensures in
    subst (λ (rs : List Reply). Passed (codes "reply") reply_text IsReply c.args.text.now c.in-Some.behind.now rs) (sym c.in_ok-push.ensures.items)
    (one_passed (codes "reply") reply_text IsReply c.args.text.now c.loop-content.left.now c.in-Some.content.now c.in-Some.behind.now c.loop-content.replies.items c.in-Some-2.reply c.loop-content.invariant c.in-Some.ensures one.same one.is)

use Rattle.std.proofs.Common.{List, ◌++◌, ◌∙◌, MatchOption, Option, ap, subst}
use Rattle.stk_memory.specs.declared.image.Cell.{Cell}
use Rattle.stk_replay_script.specs.Fields.{AreCells}
use Rattle.stk_replay_script.proofs.Prefixes.{behind_prefix}
use Rattle.stk_replay_script.proofs.CellTexts.{reply_parts}
use Rattle.stk_replay_script.proofs.replies.reply_in.Goals as goal

pub returns-in_default-signed_number_in : goal.returns-in_default-signed_number_in
returns-in_default-signed_number_in c r h =
    let behind = behind_prefix c.args.text.now c.as_slice.result.now c.in-Some.content c.in-Some.ensures.cases ∙ ap (λ p. p ++ c.in-Some.content.now) c.as_slice.ensures in
    let number = h.is.number in
    c.in_default-signed_number_in.ensures r.number number (reply_parts c.args.text.now c.in-Some.content.now c.cut_at.result.0.now c.cut_at.result.1.now r behind c.cut_at.ensures h).0

pub returns-in_default-2 : goal.returns-in_default-2
returns-in_default-2 c r h =
    let behind = behind_prefix c.args.text.now c.as_slice.result.now c.in-Some.content c.in-Some.ensures.cases ∙ ap (λ p. p ++ c.in-Some.content.now) c.as_slice.ensures in
    let none = subst (λ (o : Option (List Cell)). MatchOption o ((cs : List Cell) → AreCells c.cut_at.result.1.now cs → ⊥) (AreCells c.cut_at.result.1.now)) c.in_default-2.is c.in_ok-writes.ensures in
    none r.writes (reply_parts c.args.text.now c.in-Some.content.now c.cut_at.result.0.now c.cut_at.result.1.now r behind c.cut_at.ensures h).1

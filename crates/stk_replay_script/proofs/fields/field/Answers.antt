use Rattle.std.proofs.Common.{◌++◌, ◌∷◌}
use Rattle.stk_replay_script.proofs.Prefixes.{no_prefix, behind_prefix}
use Rattle.stk_replay_script.proofs.FieldTexts.{field_by_first}
use Rattle.stk_replay_script.proofs.fields.field.Goals as goal

pub returns-in_err-content : goal.returns-in_err-content
returns-in_err-content c =
    rw c.from_residual.ensures (λ content behind h. no_prefix c.args.text.now c.args.word.now c.in_err-content.ensures.cases (content ++ 10 ∷ behind) h.same)

pub returns : goal.returns
returns c =
    field_by_first c.args.word.now c.args.text.now c.in_ok-content.content.now (behind_prefix c.args.text.now c.args.word.now c.in_ok-content.content c.in_ok-content.ensures.cases) c.first_line.result c.first_line.ensures

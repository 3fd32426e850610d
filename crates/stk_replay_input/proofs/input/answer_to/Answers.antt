use Rattle.stk_replay_input.proofs.OneNaming.{input_answered}
use Rattle.stk_replay_input.proofs.input.answer_to.Goals as goal

pub returns-in-Some : goal.returns-in-Some
returns-in-Some c =
    input_answered c.args.bytes.now c.in-Some.script c.in-Some.source.now (rw c.in-Some.is at c.in_ok-script.ensures) c.source_replay.result c.source_replay.ensures

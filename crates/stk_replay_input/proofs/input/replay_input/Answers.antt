use Rattle.stk_replay_input.proofs.OneNaming.{long_only}
use Rattle.stk_replay_input.proofs.input.replay_input.Goals as goal

pub returns-clause-long_only : goal.returns-clause-long_only
returns-clause-long_only c = long_only c.args.bytes.now c.answer_to-answer.result c.answer_to-answer.ensures

use Rattle.stk_replay_script.proofs.ScriptTexts.{one_script}
use Rattle.stk_replay_script.proofs.StartTexts.{one_start}
use Rattle.stk_replay_script.proofs.laws.texts_have_one_reading.Goals as goal

pub returns : goal.returns
returns c = record { inputs = one_script; starts = one_start }

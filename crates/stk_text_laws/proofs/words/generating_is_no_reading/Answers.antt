use Rattle.stk_text_laws.proofs.Items.{no_reading}
use Rattle.stk_text_laws.proofs.words.generating_is_no_reading.Goals as goal

pub returns : goal.returns
returns c = no_reading

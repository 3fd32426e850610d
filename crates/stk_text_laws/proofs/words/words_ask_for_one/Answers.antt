use Rattle.stk_text_laws.proofs.Items.{one_options}
use Rattle.stk_text_laws.proofs.words.words_ask_for_one.Goals as goal

pub returns : goal.returns
returns c = one_options

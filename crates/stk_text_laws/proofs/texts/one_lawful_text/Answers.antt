use Rattle.stk_text_laws.proofs.Unique.{one_text}
use Rattle.stk_text_laws.proofs.texts.one_lawful_text.Goals as goal

pub returns : goal.returns
returns c = one_text

use Rattle.stk_text_laws.proofs.Exists.{records_of}
use Rattle.stk_text_laws.proofs.texts.each_text_has_lawful_records.Goals as goal

pub returns : goal.returns
returns c = records_of

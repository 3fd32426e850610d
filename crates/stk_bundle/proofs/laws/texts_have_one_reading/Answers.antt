use Rattle.stk_bundle.proofs.LineTexts.{one_line}
use Rattle.stk_bundle.proofs.OneReading.{one_reading}
use Rattle.stk_bundle.proofs.laws.texts_have_one_reading.Goals as goal

pub returns : goal.returns
returns c = record { lines = one_line; bundles = one_reading }

use Rattle.stk_text_laws.proofs.Cutting.{cut_of}
use Rattle.stk_text_laws.proofs.cuts.each_text_has_a_cut.Goals as goal

pub returns : goal.returns
returns c = cut_of

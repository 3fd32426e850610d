use Rattle.stk_text_laws.proofs.Alike.{by_its_tokens}
use Rattle.stk_text_laws.proofs.layouts.laid_out_by_its_tokens.Goals as goal

pub returns : goal.returns
returns c = by_its_tokens

use Rattle.stk_text_laws.proofs.Levels.{ends_first}
use Rattle.stk_text_laws.proofs.semicolons.ends_at_the_first_semicolon.Goals as goal

pub returns : goal.returns
returns c = ends_first

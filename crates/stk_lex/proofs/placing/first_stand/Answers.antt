use Rattle.stk_lex.proofs.Stands.{is_first_stand}
use Rattle.stk_lex.proofs.placing.first_stand.Goals as goal

pub returns-clause-stand : goal.returns-clause-stand
returns-clause-stand c = is_first_stand c.args.bytes.now

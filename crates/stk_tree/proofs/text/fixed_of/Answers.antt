use Rattle.stk_tree.proofs.Firsts.{missed}
use Rattle.stk_tree.proofs.text.fixed_of.Goals as goal

pub returns-in-len1-up-clause-missing : goal.returns-in-len1-up-clause-missing
returns-in-len1-up-clause-missing c = missed c.beginning_with.result.now c.args.text.now c.among.result c.beginning_with.ensures c.among.ensures.missing

use Rattle.stk_compatible.proofs.Pairs.{pairs_more}
use Rattle.stk_compatible.proofs.comparing.add_pair.Goals as goal

pub returns : goal.returns
returns c = pairs_more c.args.waiting.now.items c.push.new.self.items c.args.left c.args.right c.in_ok-push.ensures.items

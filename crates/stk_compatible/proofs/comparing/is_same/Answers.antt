use Rattle.stk_compatible.proofs.Pairs.{pair_alone}
use Rattle.stk_compatible.proofs.comparing.is_same.Goals as goal

pub returns : goal.returns
returns c = pair_alone c.are_same.result c.new-waiting.result.items c.push.new.self.items _ _ c.new-waiting.ensures.items c.in_ok-push.ensures.items c.are_same.ensures

use Rattle.std.proofs.Common.{arith, refl}
use Rattle.stk_lex.specs.Skimming.{closing}
use Rattle.stk_lex.proofs.Found.{found_end, found_step}
use Rattle.stk_lex.proofs.ahead.closings.Goals as goal

pub loop-at-init : goal.loop-at-init
unfolding closing
loop-at-init c = record {
  within = omega arith;
  size = omega (arith, c.in_ok-push.ensures.len, c.in_ok-ends.ensures.len);
  found = rw (c.in_ok-push.ensures.items, c.in_ok-ends.ensures.items) (found_end (closing c.args.bytes.now 1) c.args.tokens.now refl);
}

pub loop-at-preserved : goal.loop-at-preserved
loop-at-preserved c = record {
  within = omega arith;
  size = omega (arith, c.in_ok-push-2.ensures.len, c.loop-at.invariant.size);
  found = rw c.in_ok-push-2.ensures.items (found_step (closing c.args.bytes.now 1) c.args.tokens.now _ c.loop-at.at _ c.loop-at.ends.items c.closing_with-end.result
      c.loop-at-test.true c.loop-at.invariant.within c.loop-at.invariant.size c.split_at.ensures.back c.closing_with-end.ensures c.loop-at.invariant.found);
}

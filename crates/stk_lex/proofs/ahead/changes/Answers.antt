use Rattle.std.proofs.Common.{drop, arith, refl}
use Rattle.std.proofs.lemmas.List.{length-drop}
use Rattle.std.proofs.Math.Seq.{drop-length}
use Rattle.stk_lex.specs.Ahead.{unchanged}
use Rattle.stk_lex.proofs.Found.{found_end, found_step, unchanged_step, unchanged_within}
use Rattle.stk_lex.proofs.ahead.changes.Goals as goal

pub loop-at-init : goal.loop-at-init
unfolding unchanged
loop-at-init c = record {
  within = omega arith;
  last = rw (drop-length c.args.tokens.now) refl;
  size = omega (arith, c.in_ok-push.ensures.len, c.in_ok-changes.ensures.len);
  found = rw (c.in_ok-push.ensures.items, c.in_ok-changes.ensures.items) (found_end (unchanged c.args.bytes.now) c.args.tokens.now refl);
}

pub unchanged_with-last-requires : goal.unchanged_with-last-requires
unchanged_with-last-requires c =
    let behind = drop c.loop-at.at c.args.tokens.now in
    omega (arith, c.loop-at.invariant.last, unchanged_within c.args.bytes.now behind, length-drop c.loop-at.at c.args.tokens.now, c.requires)

pub loop-at-preserved : goal.loop-at-preserved
loop-at-preserved c =
    let i = c.loop-at.invariant in
    let behind = drop c.loop-at.at c.args.tokens.now in
    let value = c.unchanged_with-last.ensures behind i.last in
    record {
      within = omega arith;
      last = unchanged_step c.args.bytes.now c.args.tokens.now c.loop-at.at _ _ c.loop-at-test.true i.within value;
      size = omega (arith, c.in_ok-push-2.ensures.len, i.size);
      found = rw c.in_ok-push-2.ensures.items (found_step (unchanged c.args.bytes.now) c.args.tokens.now behind c.loop-at.at _ c.loop-at.changes.items c.unchanged_with-last.result
          c.loop-at-test.true i.within i.size refl value i.found);
    }

use Rattle.std.proofs.Common.{◌≡◌, ◌-◌, length, arith}
use Rattle.stk_bundle.proofs.BlockTexts.{none_passed, one_passed, too_few, both_parts, all_passed}
use Rattle.stk_bundle.proofs.block.block_of.Goals as goal

pub loop-left-init : goal.loop-left-init
loop-left-init c = none_passed c.args.text.now c.args.lines

pub loop-left-preserved : goal.loop-left-preserved
loop-left-preserved c = one_passed c.args.text.now c.loop-left.rest.now c.in-Some.field-0-0.now c.in-Some.behind.now c.args.lines c.loop-left.left c.loop-left.invariant c.in-Some.ensures c.loop-left-test.true

pub returns-in_default : goal.returns-in_default
returns-in_default c = too_few c.args.text.now c.loop-left.rest.now c.args.lines c.loop-left.left c.loop-left.invariant c.in_default.ensures c.loop-left-test.true

pub returns : goal.returns
returns c =
    let none : c.loop-left.left ≡ 0 = omega (arith, c.loop-left-test.false) in (
      both_parts c.args.text.now c.split_at.result.0.now c.split_at.result.1.now (length c.args.text.now - length c.loop-left.rest.now) c.split_at.ensures.front c.split_at.ensures.back,
      all_passed c.args.text.now c.loop-left.rest.now c.split_at.result.0.now c.args.lines c.loop-left.left c.loop-left.invariant none c.split_at.ensures.front,
    )

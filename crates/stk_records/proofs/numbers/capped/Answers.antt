use Rattle.stk_records.proofs.Decimals.{goes_on, ended}
use Rattle.stk_records.proofs.numbers.capped.Goals as goal

pub loop-byte-preserved : goal.loop-byte-preserved
loop-byte-preserved c = goes_on c.args.bound c.args.text.now c.loop-byte.byte-index c.loop-byte.number c.longer-number.result c.requires.least c.loop-byte-test.true c.loop-byte.invariant.1 c.loop-byte.invariant.0 c.loop-byte.invariant.2 c.longer-number.ensures

pub returns : goal.returns
returns c = ended c.args.bound c.args.text.now c.loop-byte.byte-index c.loop-byte.number c.loop-byte-test.false c.loop-byte.invariant.1 c.loop-byte.invariant.0

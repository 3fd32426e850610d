use Rattle.std.proofs.Common.{sym, true≢false, arith}
use Rattle.stk_terms.proofs.Args.{arg_exists}
use Rattle.stk_terms.proofs.fitting.are_below.Goals as goal

pub returns-then-arg-count : goal.returns-then-arg-count
returns-then-arg-count c = (λ h. absurd (true≢false (sym h)), λ b. absurd (let h = arg_exists c.args.count c.args.args.now c.loop-arg.arg-index (record { 0 = 0 }) b c.loop-arg-test.true in omega (arith, h)))

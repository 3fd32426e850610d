use Rattle.std.proofs.Common.{◌≡◌, ◌≤◌, ◌<◌, length, get_or, sym, subst, arith}
use Rattle.std.proofs.lemmas.List.{take_all}
use Rattle.std.specs.List.{All}
use Rattle.std.proofs.Math.Nat.{min-le_left, min-le_right}
use Rattle.stk_proofs.specs.Distinct.{IsBetween}
use Rattle.stk_proofs.proofs.Distinctness.{between_more}
use Rattle.stk_proofs.proofs.distinct.bounds_of.Goals as goal
use Rattle.stk_proofs.proofs.distinct.bounds_of.Goals.{then-literal-greatest, else-literal-greatest}

pub loop-literal-preserved : goal.loop-literal-preserved
loop-literal-preserved c =
    let ls = c.args.literals.now in
    let i = c.loop-literal.literal-index in
    let least = c.loop-literal.least in
    let it = get_or ls i (record { 0 = 0 }) in
    let low : c.min-least.result ≤ least = omega (arith, c.min-least.ensures, min-le_left least it.0) in
    let from : c.min-least.result ≤ it.0 = omega (arith, c.min-least.ensures, min-le_right least it.0) in
    elim c.if-literal-greatest.branch [
      | then-literal-greatest w ↦ between_more least c.loop-literal.greatest c.min-least.result c.if-literal-greatest.greatest ls i (record { 0 = 0 }) c.loop-literal-test.true low (omega (arith, w.if-literal-greatest.true, w.greatest-is)) from (omega (arith, w.greatest-is)) c.loop-literal.invariant
      | else-literal-greatest w ↦ between_more least c.loop-literal.greatest c.min-least.result c.if-literal-greatest.greatest ls i (record { 0 = 0 }) c.loop-literal-test.true low (omega (arith, w.greatest-is)) from (omega (arith, w.if-literal-greatest.false, w.greatest-is)) c.loop-literal.invariant
    ]

pub returns : goal.returns
returns c = subst (All (IsBetween c.loop-literal.least c.loop-literal.greatest)) (take_all c.loop-literal.literal-index c.args.literals.now c.loop-literal-test.false) c.loop-literal.invariant

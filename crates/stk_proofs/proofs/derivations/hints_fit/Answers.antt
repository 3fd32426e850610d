use Rattle.std.proofs.Common.{ℕ, ◌+◌, ◌^◌, ◌<◌, subst, arith, refl}
use Rattle.std.specs.List.{All}
use Rattle.std.proofs.lemmas.List.{take_all}
use Rattle.std.proofs.lemmas.List.Elements.{All-more}
use Rattle.stk_proofs.proofs.derivations.hints_fit.Goals as goal

pub loop-hint-preserved : goal.loop-hint-preserved
loop-hint-preserved c =
    All-more (λ (h : ℕ). h + 1 < 2 ^ 31) c.args.hints.now c.loop-hint.hint-index 0 c.loop-hint-test.true c.loop-hint.invariant (omega (arith, c.if-hint-ge-MOST_NUMBER.false))

pub returns : goal.returns
returns c = ((λ _. subst (All (λ (h : ℕ). h + 1 < 2 ^ 31)) (take_all c.loop-hint.hint-index c.args.hints.now c.loop-hint-test.false) c.loop-hint.invariant), (λ _. refl))

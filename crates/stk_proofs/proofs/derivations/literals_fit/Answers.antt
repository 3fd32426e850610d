use Rattle.std.proofs.Common.{◌+◌, ◌/◌, ◌^◌, ◌<◌, subst, arith, refl}
use Rattle.std.specs.List.{All}
use Rattle.std.proofs.lemmas.List.{take_all}
use Rattle.std.proofs.lemmas.List.Elements.{All-more}
use Rattle.stk_clauses.specs.declared.literal.Lit.{Lit}
use Rattle.stk_proofs.proofs.derivations.literals_fit.Goals as goal

pub loop-literal-preserved : goal.loop-literal-preserved
loop-literal-preserved c =
    All-more (λ (l : Lit). l.0 / 2 + 1 < 2 ^ 31) c.args.literals.now c.loop-literal.literal-index (record { 0 = 0 }) c.loop-literal-test.true c.loop-literal.invariant (omega (arith, c.variable.ensures, c.if-variable-ge-MOST_NUMBER.false))

pub returns : goal.returns
returns c = ((λ _. subst (All (λ (l : Lit). l.0 / 2 + 1 < 2 ^ 31)) (take_all c.loop-literal.literal-index c.args.literals.now c.loop-literal-test.false) c.loop-literal.invariant), (λ _. refl))

use Rattle.std.proofs.Common.{◌*◌, ◌<◌, subst, arith, refl}
use Rattle.std.proofs.lemmas.List.{take_all}
use Rattle.std.proofs.lemmas.List.Elements.{All-more}
use Rattle.stk_clauses.specs.declared.literal.Lit.{Lit}
use Rattle.stk_clauses.specs.Literals.{AreBelow}
use Rattle.stk_clauses.proofs.literal.are_below.Goals as goal

pub loop-lit-preserved : goal.loop-lit-preserved
loop-lit-preserved c =
    All-more (λ (l : Lit). l.0 < 2 * c.args.vars) c.args.clause.now c.loop-lit.lit-index (record { 0 = 0 }) c.loop-lit-test.true c.loop-lit.invariant (omega (arith, c.variable.ensures, c.if-variable-vars.false))

pub returns : goal.returns
returns c = ((λ _. subst (λ xs. AreBelow c.args.vars xs) (take_all c.loop-lit.lit-index c.args.clause.now c.loop-lit-test.false) c.loop-lit.invariant), (λ _. refl))

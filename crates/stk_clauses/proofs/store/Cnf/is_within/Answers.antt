use Rattle.std.proofs.Common.{[], subst, arith, refl}
use Rattle.std.specs.List.{All}
use Rattle.std.proofs.lemmas.List.{take_all}
use Rattle.std.proofs.lemmas.List.Elements.{All-more}
use Rattle.stk_clauses.specs.Literals.{AreBelow}
use Rattle.stk_clauses.proofs.store.Cnf.is_within.Goals as goal

pub loop-id-preserved : goal.loop-id-preserved
loop-id-preserved c =
    let cnf = c.args.self.now in
    All-more (AreBelow cnf.vars) cnf.store c.loop-id.id [] (omega (arith, c.loop-id-test.true, c.count-id-end.ensures.count)) c.loop-id.invariant
    (subst (λ xs. AreBelow cnf.vars xs) c.clause.ensures.clause (c.are_below.ensures.0 c.if-not-are_below.false))

pub returns : goal.returns
returns c =
    let cnf = c.args.self.now in (
      (λ _. subst (λ cs. All (AreBelow cnf.vars) cs) (take_all c.loop-id.id cnf.store (omega (arith, c.loop-id-test.false, c.count-id-end.ensures.count))) c.loop-id.invariant),
      (λ _. refl),
    )

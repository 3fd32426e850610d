use Rattle.std.proofs.Common.{◌≡◌, ◌≢◌, get_or, take, sym, subst, arith, Some}
use Rattle.std.specs.List.{Contains}
use Rattle.std.proofs.lemmas.Bool.{false≢true}
use Rattle.std.proofs.lemmas.List.{take_all}
use Rattle.stk_clauses.specs.declared.literal.Lit.{Lit}
use Rattle.stk_propagate.proofs.Choose.{best_kept, best_next}
use Rattle.stk_propagate.proofs.choosing.latest.Goals as goal
use Rattle.stk_propagate.proofs.choosing.latest.Goals.{then-when-at, else-when-at}

pub loop-lit-preserved : goal.loop-lit-preserved
loop-lit-preserved c =
    let t = c.args.assigned.now.literals in
    let cl = c.args.clause.now in
    let i = c.loop-lit.lit-index in
    let d : Lit = record { 0 = 0 } in
    let ne : c.args.but ≢ Some (get_or cl i d) = λ e. false≢true (c.if-is_it.ensures.1 e) in
    elim c.if-when-at.branch [
      | then-when-at w ↦ rw (w.best-is, w.when-is) (best_next t cl i c.args.but c.loop-lit.best d c.loop-lit.when c.falsified_at-at.result c.loop-lit-test.true c.loop-lit.invariant ne c.falsified_at-at.ensures w.if-when-at.true)
      | else-when-at w ↦ rw (w.best-is, w.when-is) (best_kept t cl i c.args.but c.loop-lit.best d c.loop-lit.when c.falsified_at-at.result c.loop-lit-test.true c.loop-lit.invariant c.falsified_at-at.ensures w.if-when-at.false)
    ]

pub returns-clause-latest : goal.returns-clause-latest
returns-clause-latest c =
    let e : take c.loop-lit.lit-index c.args.clause.now ≡ c.args.clause.now = take_all c.loop-lit.lit-index c.args.clause.now (omega (arith, c.loop-lit-test.false)) in
    λ m h ne. c.loop-lit.invariant.later m (subst (λ ys. Contains ys m) (sym e) h) ne

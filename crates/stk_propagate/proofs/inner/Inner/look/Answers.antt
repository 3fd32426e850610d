use Rattle.std.proofs.Common.{List, get_or, subst, sym, arith, Some}
use Rattle.stk_clauses.specs.declared.literal.Lit.{Lit}
use Rattle.stk_propagate.specs.Assigned.{Assigned}
use Rattle.stk_propagate.specs.Trailed.{IsGrown}
use Rattle.stk_propagate.specs.Fitting.{IsWatched}
use Rattle.stk_propagate.proofs.Choose.{two_watched}
use Rattle.stk_propagate.proofs.Visiting.{grown_refl}
use Rattle.stk_propagate.proofs.inner.Inner.look.Goals as goal

pub watch-requires-clause-watched : goal.watch-requires-clause-watched
watch-requires-clause-watched c =
    let cl = c.clause-clause.result.now in
    let d : Lit = record { 0 = 0 } in
    subst (λ (ys : List Lit). IsWatched ys (Some (get_or cl 0 d, get_or cl 1 d))) c.clause-clause.ensures.clause (two_watched cl d d c.clause-clause.ensures.distinct (omega (arith, c.if-clause-lt2.false)))

pub returns-then-are_live-clause-grown : goal.returns-then-are_live-clause-grown
returns-then-are_live-clause-grown c =
    let a = c.args.self.now.assigned in
    subst (λ (b : Assigned). IsGrown a b) (sym c.watch.ensures.assigned) (grown_refl a)

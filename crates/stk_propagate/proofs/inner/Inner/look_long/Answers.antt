use Rattle.std.proofs.Common.{◌≤◌, List, length, take, refl, sym, subst, arith, Some}
use Rattle.std.specs.List.{Contains}
use Rattle.std.proofs.lemmas.Bool.{false≢true}
use Rattle.stk_clauses.specs.declared.literal.Lit.{Lit}
use Rattle.stk_clauses.specs.Literals.{negated}
use Rattle.stk_clauses.specs.Propagation.{AllFalse}
use Rattle.stk_propagate.specs.Fitting.{IsReason, IsSettled, IsCalm}
use Rattle.stk_propagate.proofs.Lists.{in_take, no_pair}
use Rattle.stk_propagate.proofs.Choose.{calm_before}
use Rattle.stk_propagate.proofs.Looks.{all_false, others_false, grown_assumed}
use Rattle.stk_propagate.proofs.inner.Inner.look_long.Goals as goal

pub returns-then-is_true-clause-found : goal.returns-then-is_true-clause-found
returns-then-is_true-clause-found c =
    let t = c.args.self.now.assigned.literals in
    let cl = c.clause-clause.result.now in
    let a = c.latest-first.result in
    let h = subst (λ (y : Lit). Contains t y) c.negated.ensures (c.if-is_true.ensures.0 refl) in
    subst (λ (ys : List Lit). AllFalse t ys) c.clause-clause.ensures.clause (all_false t cl a c.latest-second.result c.latest-first.ensures.latest c.latest-second.ensures.latest c.latest-second.ensures.among h)

pub settle-requires-clause-reason : goal.settle-requires-clause-reason
settle-requires-clause-reason c =
    let t = c.args.self.now.assigned.literals in
    let cl = c.clause-clause.result.now in
    let a = c.latest-first.result in
    λ h. subst (λ (ys : List Lit). IsReason t ys a) c.clause-clause.ensures.clause (others_false t cl a c.latest-second.result c.latest-second.ensures.latest c.latest-first.ensures.among h)

pub watch-requires-clause-covered : goal.watch-requires-clause-covered
watch-requires-clause-covered c =
    let g = c.settle.new.self in
    let u = g.assigned.literals in
    let e = c.settle.ensures in
    ((λ h. absurd (e.live (in_take u g.head (negated c.latest-first.result) h))), (λ h. e.settled (in_take u g.head (negated c.latest-second.result) h)))

pub watch-requires-clause-calm : goal.watch-requires-clause-calm
watch-requires-clause-calm c = λ k p.
    let f = c.args.self.now in
    let t = f.assigned.literals in
    let u = c.settle.new.self.assigned.literals in
    let cl = c.clause-clause.result.now in
    let a = c.latest-first.result in
    let b = c.latest-second.result in
    let was = grown_assumed f.assigned c.settle.new.self.assigned k c.vars.ensures.facts.paired c.vars-2.ensures.facts.paired c.settle.ensures.grown p in
    let le : k ≤ length t = omega (arith, was.0.0) in
    let settled = subst (λ (ys : List Lit). IsSettled (take k t) ys) (sym c.clause-clause.ensures.clause) (c.requires.fits.settled k f.looked was.0 c.requires.more) in
    let calm = calm_before t cl a b k c.vars.ensures.facts.fresh (no_pair t c.vars.ensures.facts.fresh) le c.latest-first.ensures.among (λ h. false≢true (c.if-is_true.ensures.1 (subst (λ (y : Lit). Contains t y) (sym c.negated.ensures) h))) c.latest-second.ensures.latest settled in
    subst (λ (xs : List Lit). IsCalm xs xs cl (Some (a, b))) (sym was.1) calm

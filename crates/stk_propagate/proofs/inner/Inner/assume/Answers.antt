use Rattle.std.proofs.Common.{◌≡◌, List, [], ◌∷◌, ◌++◌, length, sym, ◌∙◌, ap, subst, Option, None}
use Rattle.stk_clauses.specs.declared.literal.Lit.{Lit}
use Rattle.stk_clauses.specs.Propagation.{IsOpen, AreQuiet}
use Rattle.stk_propagate.specs.Linked.{trailed}
use Rattle.stk_propagate.proofs.Lists.{no_pair}
use Rattle.stk_propagate.proofs.Fits.{fits_assume}
use Rattle.stk_propagate.proofs.Steps.{linked_vars}
use Rattle.stk_propagate.proofs.Ends.{ended, quiet_literals, quiet_reasons}
use Rattle.stk_propagate.proofs.inner.Inner.assume.Goals as goal
use Rattle.stk_propagate.proofs.inner.Inner.assume.Goals.{After-propagate}

same : (c : After-propagate) → c.propagate.new.self.assigned.literals ≡ c.args.self.now.assigned.literals
same c = let e = c.propagate.ensures in quiet_literals c.args.self.now.assigned c.propagate.new.self.assigned c.args.store.now e.before e.facts e.grown e.fits.reasons c.requires.quiet

pub push-requires-clause-unassigned : goal.push-requires-clause-unassigned
push-requires-clause-unassigned c = subst (λ (ys : List Lit). IsOpen ys c.args.lit) (sym (same (goal.at.push-requires-clause-unassigned c).After-propagate)) c.requires.unassigned

pub returns-clause-linked : goal.returns-clause-linked
returns-clause-linked c = linked_vars c.propagate.new.self c.push.new.self c.push.ensures.vars c.propagate.ensures.linked

pub returns-clause-fits : goal.returns-clause-fits
returns-clause-fits c =
    let g = c.propagate.new.self in
    let cs = c.args.store.now in
    let e = c.propagate.ensures in
    let t = g.assigned.literals in
    let p = c.push.ensures in
    let s = same (goal.at.returns-clause-fits c).After-propagate in
    let quiet : AreQuiet t cs = subst (λ (ys : List Lit). AreQuiet ys cs) (sym s) c.requires.quiet in
    let end = ended c.propagate.result t cs ((g.looked ≡ length cs) × (g.head ≡ length t)) (no_pair t e.facts.fresh) quiet e.found in
    fits_assume (trailed g) c.push.new.self cs c.args.lit e.fits e.facts.paired end.0 end.1 quiet p.vars p.literals p.reasons

pub returns-clause-literals : goal.returns-clause-literals
returns-clause-literals c = c.push.ensures.literals ∙ ap (λ (ys : List Lit). ys ++ c.args.lit ∷ []) (same (goal.at.returns-clause-literals c).After-propagate)

pub returns-clause-reasons : goal.returns-clause-reasons
returns-clause-reasons c =
    let e = c.propagate.ensures in
    let s = same (goal.at.returns-clause-reasons c).After-propagate in
    c.push.ensures.reasons ∙ ap (λ (ys : List (Option _)). ys ++ None ∷ []) (quiet_reasons c.args.self.now.assigned c.propagate.new.self.assigned e.before e.facts e.grown s)

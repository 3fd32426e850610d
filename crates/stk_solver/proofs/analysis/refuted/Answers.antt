use Rattle.std.proofs.Common.{◌∙◌, [], reverse, subst, sym}
use Rattle.stk_clauses.specs.Literals.{AreBelow}
use Rattle.stk_clauses.specs.Hints.{IsByHints}
use Rattle.stk_solver.proofs.LearntClauses.{learnt_by_hints, empty_each}
use Rattle.stk_solver.proofs.analysis.refuted.Goals as goal

pub returns-clause-by_hints : goal.returns-clause-by_hints
returns-clause-by_hints c =
    let t = c.args.trail.now.assigned.literals in
    let vars = c.args.marks.now.vars in
    let cs = c.args.store.now in
    let s = c.in_ok-to_start.ensures in
    let facts = c.assigned.ensures.facts in
    let m = c.to_start.new.self in
    let below = subst (λ v. AreBelow v t) c.requires.vars facts.within in
    let by' = learnt_by_hints cs t m.marked.items m.hints.items [] facts.fresh s.guided (empty_each m.marked.items s.clean.none) vars below in
    subst (λ hs. IsByHints vars cs c.empty.result hs) (sym (c.from_vec.ensures ∙ c.in_ok-hints.ensures)) (subst (λ y. IsByHints vars cs y (reverse m.hints.items)) (sym c.empty.ensures) by')

use Rattle.std.proofs.Common.{◌≡◌, ◌*◌, ◌/◌, ◌<◌, ◌∙◌, true, false, get_or, ap, arith, subst, sym}
use Rattle.std.specs.List.{Contains}
use Rattle.std.proofs.lemmas.List.{get_or_default, get_or_read}
use Rattle.stk_clauses.specs.declared.literal.Lit.{Lit}
use Rattle.stk_propagate.specs.Assigned.{Assigned}
use Rattle.stk_propagate.specs.Trailed.{level_of}
use Rattle.stk_propagate.proofs.assignment.Assignment.level.Goals as goal

pub returns-then-index : goal.returns-then-index
returns-then-index c =
    let f = c.self.inside in
    let s = c.self.invariant in
    let l = c.args.lit in
    let n = c.index-then-index.result.now in
    let below : l.0 < 2 * f.vars = subst (λ (a : Assigned). l.0 < 2 * a.vars) (sym c.self.view_is) c.requires in
    let marked : get_or f.truth.items l.0 false ≡ true = sym (get_or_read f.truth.items l.0 c.index.result.now (omega (arith, s.sized, below)) c.index.ensures false) ∙ c.if-index.true in
    let here : Contains f.literals.items l = s.truths.back l marked in
    let read : n ≡ get_or f.levels.items (l.0 / 2) 0 = c.index-then-index.ensures ∙ get_or_default f.levels.items (l.0 / 2) n 0 (omega (arith, s.leveled_sized, below)) in
    let told : n ≡ level_of f.reasons.items here.0 = read ∙ ap (λ (y : Lit). get_or f.levels.items (y.0 / 2) 0) (sym here.2) ∙ s.leveled here.0 l here.1 in
    rw (← c.self.view_is) (here.0, here.1, here.2, told)

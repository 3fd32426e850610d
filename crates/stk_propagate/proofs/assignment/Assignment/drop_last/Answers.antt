use Rattle.std.proofs.Common.{◌≡◌, ◌+◌, ◌-◌, ◌<◌, ◌∙◌, ℕ, List, Option, None, length, get_or, arith, refl, subst, sym}
use Rattle.std.proofs.lemmas.List.{get_or_default}
use Rattle.stk_propagate.specs.Assigned.{Assigned}
use Rattle.stk_propagate.specs.Trailed.{one_if_assumed}
use Rattle.stk_propagate.proofs.Dropping.{inside_drop}
use Rattle.stk_propagate.proofs.assignment.Assignment.drop_last.Goals as goal

pub invariant_of-self : goal.invariant_of-self
invariant_of-self c =
    let f = c.self.inside in
    let rs : List (Option ℕ) = f.reasons.items in
    let some : 0 < length f.literals.items = subst (λ (a : Assigned). 0 < length a.literals) (sym c.self.view_is) c.requires in
    let at : ℕ = c.len-at.result - 1 in
    let lt : at < length rs = omega (arith, c.self.invariant.facts.paired, c.len-at.ensures, f.literals.ok.0, some) in
    let same : c.index.result.now ≡ get_or rs at None = c.index.ensures ∙ get_or_default rs at c.index.result.now None lt in
    let less : c.shallower-self-inside.result + one_if_assumed (get_or rs at None) ≡ f.depth = subst (λ (r : Option ℕ). c.shallower-self-inside.result + one_if_assumed r ≡ f.depth) same c.shallower-self-inside.ensures in
    inside_drop f _ at c.index-lit.result.now c.self.invariant (omega (arith, c.len-at.ensures, f.literals.ok.0, some)) c.index-lit.ensures
    refl refl refl refl less c.truncate.ensures.items c.truncate-2.ensures.items (omega (arith, c.truncate.ensures.capacity)) (omega (arith, c.truncate-2.ensures.capacity))

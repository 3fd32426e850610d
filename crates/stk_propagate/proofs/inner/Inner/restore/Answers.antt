use Rattle.std.proofs.Common.{◌≡◌, ◌⊎◌, ℕ, ◌*◌, ◌<◌, List, [], get_or, drop, sym, ◌∙◌, ap, subst, arith}
use Rattle.stk_propagate.specs.WatchLists.{Chained}
use Rattle.stk_propagate.specs.declared.inner.Inner.{Inner}
use Rattle.stk_propagate.proofs.Links.{Spare, Links, links_taken}
use Rattle.stk_propagate.proofs.Plain.{exchanged}
use Rattle.stk_propagate.proofs.Steps.{as_linked, linked_exchanged}
use Rattle.stk_propagate.proofs.inner.Inner.restore.Goals as goal

pub keep-requires-clause-linked : goal.keep-requires-clause-linked
keep-requires-clause-linked c =
    let g = c.loop-place.self in
    let w = c.args.lit in
    let cs = g.chains.chains in
    let vars = g.assigned.vars in
    let n = c.in-Some.place in
    let lt : w.0 < 2 * vars = omega (arith, ap (λ (x : Inner). x.assigned.vars) c.loop-place.invariant.rest, c.requires.below) in
    let e = ap (λ (k : Chained). k.chains) c.in-Some.ensures.rest in
    subst (λ (ds : List (List ℕ)). Links ds vars g.looked g.watches.items w (λ x. Spare ds vars x ⊎ (x ≡ n))) (sym e)
    (links_taken cs vars g.looked g.watches.items w n (drop 1 (get_or cs w.0 [])) lt c.loop-place.invariant.sized.many c.in-Some.ensures.first c.loop-place.invariant.linked)

pub returns-clause-linked : goal.returns-clause-linked
returns-clause-linked c =
    let g = c.loop-place.self in
    let w = c.args.lit in
    let vars = g.assigned.vars in
    let i = c.loop-place.invariant in
    let ts = c.take_first.new.self.chains in
    let lt : w.0 < 2 * vars = omega (arith, ap (λ (x : Inner). x.assigned.vars) i.rest, c.requires.below) in
    let twice : c.vars.result * 2 ≡ 2 * vars = omega (arith, c.vars.ensures.vars) in
    let same : c.take_first.new.self ≡ g.chains = c.in_default.ensures.free in
    let e : c.exchange.new.self.chains ≡ exchanged g.chains.chains w.0 (2 * vars) = ap (λ (k : Chained). k.chains) c.exchange.ensures ∙ ap (λ (j : ℕ). exchanged ts w.0 j) twice ∙ ap (λ (k : Chained). exchanged k.chains w.0 (2 * vars)) same in
    let n : c.exchange.new.self.numbers ≡ g.chains.numbers = ap (λ (k : Chained). k.numbers) c.exchange.ensures ∙ ap (λ (k : Chained). k.numbers) same in
    as_linked _ (linked_exchanged g.chains c.exchange.new.self.chains c.exchange.new.self.numbers vars g.looked g.watches.items w lt i.sized.many i.sized.numbered i.sized.few c.in_default.ensures.first i.linked e n)

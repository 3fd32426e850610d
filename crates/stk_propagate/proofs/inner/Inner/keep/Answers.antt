use Rattle.std.proofs.Common.{◌≡◌, ℕ, ◌*◌, [], ◌∷◌, List, get_or, set, sym, ◌∙◌, ap, subst, arith}
use Rattle.stk_propagate.specs.WatchLists.{Chained}
use Rattle.stk_propagate.proofs.Links.{Spare, Links, links_kept}
use Rattle.stk_propagate.proofs.inner.Inner.keep.Goals as goal

pub returns-clause-linked : goal.returns-clause-linked
returns-clause-linked c =
    let f = c.args.self.now in
    let cs = f.chains.chains in
    let n = c.args.place in
    let vars = f.assigned.vars in
    let twice : c.vars.result * 2 ≡ 2 * vars = omega (arith, c.vars.ensures.vars) in
    let e = ap (λ (k : Chained). k.chains) c.link.ensures ∙ ap (λ (i : ℕ). set cs i (n ∷ get_or cs i [])) twice in
    subst (λ (ds : List (List ℕ)). Links ds vars f.looked f.watches.items c.args._lit (Spare ds vars)) (sym e) (links_kept cs vars f.looked f.watches.items c.args._lit n c.requires.sized.many c.requires.linked)

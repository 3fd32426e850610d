use Rattle.std.proofs.Common.{ℕ, ◌/◌, ◌<◌, List, length, set, sym, ap, subst, arith, Some}
use Rattle.stk_clauses.specs.declared.literal.Lit.{Lit}
use Rattle.stk_propagate.specs.WatchLists.{Chained}
use Rattle.stk_propagate.specs.Linked.{pair_of}
use Rattle.stk_propagate.proofs.Links.{Watches, Spare, Links, links_moved}
use Rattle.stk_propagate.proofs.inner.Inner.move_to.Goals as goal

pub returns-clause-linked : goal.returns-clause-linked
returns-clause-linked c =
    let f = c.args.self.now in
    let cs = f.chains.chains in
    let ws : Watches = f.watches.items in
    let n = c.args.place in
    let to = c.args.to in
    let vars = f.assigned.vars in
    let short : n / 2 < length ws = omega (arith, c.requires.exists, c.requires.sized.numbered) in
    let moved = links_moved cs vars f.looked ws c.args._lit to c.args.other n c.requires.sized.many c.requires.below c.requires.different c.requires.looked short c.requires.watches c.requires.free c.requires.linked in
    let e = ap (λ (k : Chained). k.chains) c.link.ensures in
    let same = ap (λ (p : Lit × Lit). set ws (n / 2) (Some p)) c.pair.ensures in
    subst (λ (vs : Watches). Links c.link.new.self.chains vars f.looked vs c.args._lit (Spare c.link.new.self.chains vars)) (sym same)
    (subst (λ (ds : List (List ℕ)). Links ds vars f.looked (set ws (n / 2) (Some (pair_of n to c.args.other))) c.args._lit (Spare ds vars)) (sym e) moved)

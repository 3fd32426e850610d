use Rattle.std.proofs.Common.{ℕ, ◌<◌, [], length, get_or, arith, refl, subst, sym}
use Rattle.std.specs.List.{Contains}
use Rattle.std.proofs.lemmas.List.{get_or_read}
use Rattle.stk_propagate.specs.WatchLists.{Chained}
use Rattle.stk_propagate.proofs.Operations.{as_many, linked}
use Rattle.stk_propagate.specs.declared.watch_lists.WatchLists.TheInside.{Inside}
use Rattle.std.specs.Vec.{with_item}
use Rattle.stk_propagate.proofs.watch_lists.WatchLists.link.Goals as goal

pub invariant_of-self : goal.invariant_of-self
invariant_of-self c =
    let f = c.self.inside in
    let lt : c.args.chain < length f.firsts.items = omega (arith, subst (λ (o : Chained). c.args.chain < length o.chains) (sym c.self.view_is) c.requires.exists, as_many f) in
    let below : c.args.number < length f.nexts.items = subst (λ (o : Chained). c.args.number < o.numbers) (sym c.self.view_is) c.requires.below in
    let free = subst (λ (o : Chained). (m : ℕ) → Contains (get_or o.chains m []) c.args.number → ⊥) (sym c.self.view_is) c.requires.free in
    let e = get_or_read f.firsts.items c.args.chain c.index.result.now lt c.index.ensures 0 in
    (linked f c.self.invariant c.args.chain lt _ c.args.number c.index.result.now (sym e) below free refl refl).1

pub returns : goal.returns
returns c =
    let f = c.self.inside in
    let lt : c.args.chain < length f.firsts.items = omega (arith, subst (λ (o : Chained). c.args.chain < length o.chains) (sym c.self.view_is) c.requires.exists, as_many f) in
    let below : c.args.number < length f.nexts.items = subst (λ (o : Chained). c.args.number < o.numbers) (sym c.self.view_is) c.requires.below in
    let free = subst (λ (o : Chained). (m : ℕ) → Contains (get_or o.chains m []) c.args.number → ⊥) (sym c.self.view_is) c.requires.free in
    let e = get_or_read f.firsts.items c.args.chain c.index.result.now lt c.index.ensures 0 in
    let g : Inside = record { firsts = with_item f.firsts c.args.chain c.args.number; nexts = with_item f.nexts c.args.number c.index.result.now } in
    rw (← c.self.view_is) (linked f c.self.invariant c.args.chain lt g c.args.number c.index.result.now (sym e) below free refl refl).0

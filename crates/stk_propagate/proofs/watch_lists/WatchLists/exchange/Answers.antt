use Rattle.std.proofs.Common.{ℕ, ◌<◌, length, get_or, set, arith, refl, subst, sym, ap, ◌∙◌}
use Rattle.std.proofs.lemmas.List.{get_or_read}
use Rattle.stk_propagate.specs.WatchLists.{Chained}
use Rattle.stk_propagate.proofs.Operations.{as_many, exchange_is}
use Rattle.stk_propagate.specs.declared.watch_lists.WatchLists.TheInside.{Inside}
use Rattle.std.specs.Vec.{with_item}
use Rattle.stk_propagate.proofs.watch_lists.WatchLists.exchange.Goals as goal

pub invariant_of-self : goal.invariant_of-self
invariant_of-self c =
    let f = c.self.inside in
    let ha : c.args.a < length f.firsts.items = omega (arith, subst (λ (o : Chained). c.args.a < length o.chains) (sym c.self.view_is) c.requires.first, as_many f) in
    let hb : c.args.b < length f.firsts.items = omega (arith, subst (λ (o : Chained). c.args.b < length o.chains) (sym c.self.view_is) c.requires.second, as_many f) in
    let g : Inside = record { firsts = with_item (with_item f.firsts c.args.a c.index.result.now) c.args.b c.index-first.result.now; nexts = f.nexts } in
    let ea = get_or_read f.firsts.items c.args.a c.index-first.result.now ha c.index-first.ensures 0 in
    let eb = get_or_read f.firsts.items c.args.b c.index.result.now hb c.index.ensures 0 in
    (exchange_is f g c.args.a c.args.b c.self.invariant ha hb (ap (λ (y : ℕ). set (set f.firsts.items c.args.a y) c.args.b c.index-first.result.now) eb ∙ ap (λ (y : ℕ). set (set f.firsts.items c.args.a (get_or f.firsts.items c.args.b 0)) c.args.b y) ea) refl).1

pub returns : goal.returns
returns c =
    let f = c.self.inside in
    let ha : c.args.a < length f.firsts.items = omega (arith, subst (λ (o : Chained). c.args.a < length o.chains) (sym c.self.view_is) c.requires.first, as_many f) in
    let hb : c.args.b < length f.firsts.items = omega (arith, subst (λ (o : Chained). c.args.b < length o.chains) (sym c.self.view_is) c.requires.second, as_many f) in
    let g : Inside = record { firsts = with_item (with_item f.firsts c.args.a c.index.result.now) c.args.b c.index-first.result.now; nexts = f.nexts } in
    let ea = get_or_read f.firsts.items c.args.a c.index-first.result.now ha c.index-first.ensures 0 in
    let eb = get_or_read f.firsts.items c.args.b c.index.result.now hb c.index.ensures 0 in
    rw (← c.self.view_is) (exchange_is f g c.args.a c.args.b c.self.invariant ha hb (ap (λ (y : ℕ). set (set f.firsts.items c.args.a y) c.args.b c.index-first.result.now) eb ∙ ap (λ (y : ℕ). set (set f.firsts.items c.args.a (get_or f.firsts.items c.args.b 0)) c.args.b y) ea) refl).0

use Rattle.std.proofs.Common.{◌≡◌, ℕ, ◌<◌, [], ◌∷◌, length, get_or, drop, set, arith, refl, subst, sym, ◌∙◌, ap}
use Rattle.std.specs.List.{Contains}
use Rattle.std.proofs.lemmas.List.{get_or_read}
use Rattle.stk_propagate.specs.WatchLists.{Chained}
use Rattle.stk_propagate.proofs.Operations.{as_many, chains_of, none_first, some_first, taken, taken_free}
use Rattle.stk_propagate.specs.declared.watch_lists.WatchLists.TheInside.{Inside}
use Rattle.std.specs.Vec.{with_item}
use Rattle.stk_propagate.proofs.watch_lists.WatchLists.take_first.Goals as goal

pub returns-then-first-clause-first : goal.returns-then-first-clause-first
returns-then-first-clause-first c =
    let f = c.self.inside in
    let lt : c.args.chain < length f.firsts.items = omega (arith, subst (λ (o : Chained). c.args.chain < length o.chains) (sym c.self.view_is) c.requires, as_many f) in
    let e = get_or_read f.firsts.items c.args.chain c.index-first.result.now lt c.index-first.ensures 0 in
    rw (← c.self.view_is) (none_first f c.self.invariant c.args.chain lt (sym e ∙ c.if-first.true))

pub index-requires : goal.index-requires
index-requires c =
    let f = c.self.inside in
    let lt : c.args.chain < length f.firsts.items = omega (arith, subst (λ (o : Chained). c.args.chain < length o.chains) (sym c.self.view_is) c.requires, as_many f) in
    let e = get_or_read f.firsts.items c.args.chain c.index-first.result.now lt c.index-first.ensures 0 in
    let s = some_first f c.self.invariant c.args.chain lt (λ h. c.if-first.false (e ∙ h)) in
    omega (arith, s.1, e, f.nexts.ok.0)

pub invariant_of-self : goal.invariant_of-self
invariant_of-self c =
    let f = c.self.inside in
    let x = c.index-first.result.now in
    let g : Inside = record { firsts = with_item f.firsts c.args.chain c.index.result.now; nexts = f.nexts } in
    let lt : c.args.chain < length f.firsts.items = omega (arith, subst (λ (o : Chained). c.args.chain < length o.chains) (sym c.self.view_is) c.requires, as_many f) in
    let e = get_or_read f.firsts.items c.args.chain x lt c.index-first.ensures 0 in
    let s = some_first f c.self.invariant c.args.chain lt (λ h. c.if-first.false (e ∙ h)) in
    let y = get_or_read f.nexts.items x c.index.result.now (omega (arith, s.1, e)) c.index.ensures 0 in
    (taken f c.self.invariant c.args.chain lt g x (sym e) c.if-first.false (ap (set f.firsts.items c.args.chain) y) refl).1

pub returns-clause-rest : goal.returns-clause-rest
returns-clause-rest c =
    let f = c.self.inside in
    let x = c.index-first.result.now in
    let g : Inside = record { firsts = with_item f.firsts c.args.chain c.index.result.now; nexts = f.nexts } in
    let lt : c.args.chain < length f.firsts.items = omega (arith, subst (λ (o : Chained). c.args.chain < length o.chains) (sym c.self.view_is) c.requires, as_many f) in
    let e = get_or_read f.firsts.items c.args.chain x lt c.index-first.ensures 0 in
    let s = some_first f c.self.invariant c.args.chain lt (λ h. c.if-first.false (e ∙ h)) in
    let y = get_or_read f.nexts.items x c.index.result.now (omega (arith, s.1, e)) c.index.ensures 0 in
    rw (← c.self.view_is) (taken f c.self.invariant c.args.chain lt g x (sym e) c.if-first.false (ap (set f.firsts.items c.args.chain) y) refl).0

pub returns-clause-apart : goal.returns-clause-apart
returns-clause-apart c =
    let f = c.self.inside in
    let x = c.index-first.result.now in
    let g : Inside = record { firsts = with_item f.firsts c.args.chain c.index.result.now; nexts = f.nexts } in
    let lt : c.args.chain < length f.firsts.items = omega (arith, subst (λ (o : Chained). c.args.chain < length o.chains) (sym c.self.view_is) c.requires, as_many f) in
    let e = get_or_read f.firsts.items c.args.chain x lt c.index-first.ensures 0 in
    let s = some_first f c.self.invariant c.args.chain lt (λ h. c.if-first.false (e ∙ h)) in
    let y = get_or_read f.nexts.items x c.index.result.now (omega (arith, s.1, e)) c.index.ensures 0 in
    (taken f c.self.invariant c.args.chain lt g x (sym e) c.if-first.false (ap (set f.firsts.items c.args.chain) y) refl).1.apart

pub returns-clause-free : goal.returns-clause-free
returns-clause-free c =
    let f = c.self.inside in
    let x = c.index-first.result.now in
    let g : Inside = record { firsts = with_item f.firsts c.args.chain c.index.result.now; nexts = f.nexts } in
    let lt : c.args.chain < length f.firsts.items = omega (arith, subst (λ (o : Chained). c.args.chain < length o.chains) (sym c.self.view_is) c.requires, as_many f) in
    let e = get_or_read f.firsts.items c.args.chain x lt c.index-first.ensures 0 in
    let s = some_first f c.self.invariant c.args.chain lt (λ h. c.if-first.false (e ∙ h)) in
    let below : x < length f.nexts.items = omega (arith, s.1, e) in
    let y = get_or_read f.nexts.items x c.index.result.now below c.index.ensures 0 in
    let seen = (taken f c.self.invariant c.args.chain lt g x (sym e) c.if-first.false (ap (set f.firsts.items c.args.chain) y) refl).0 in
    let first : get_or (chains_of f) c.args.chain [] ≡ x ∷ drop 1 (get_or (chains_of f) c.args.chain []) = s.0 ∙ ap (λ (z : ℕ). z ∷ drop 1 (get_or (chains_of f) c.args.chain [])) (sym e) in
    (below, λ m h. taken_free f c.self.invariant c.args.chain lt x first m (subst (λ (o : Chained). Contains (get_or o.chains m []) x) seen h))

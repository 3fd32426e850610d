use Rattle.std.proofs.Common.{◌≡◌, ℤ, sym, subst, ◌∙◌}
use Rattle.stk_ctype.specs.declared.kind.IntKind.{IntKind}
use Rattle.stk_tree.specs.View.{view_expression}
use Rattle.stk_numbers.specs.Kinds.{wrap}
use Rattle.stk_meaning.specs.Typings.{type_in, number_kind, converted}
use Rattle.stk_meaning.specs.Places.{target_of}
use Rattle.stk_meaning.specs.Paths.{path_world}
use Rattle.stk_meaning.specs.Expressions.{stored_at}
use Rattle.stk_walk_values.proofs.Lasting.{both_keep, still_made, still_stands}
use Rattle.stk_walk_values.proofs.Storing.{leads_as}
use Rattle.stk_walking.proofs.Costing.{costs_then, costs_store}
use Rattle.stk_walk_values.proofs.stores.assigned_number.Goals as goal

pub store_number-requires-clause-number : goal.store_number-requires-clause-number
store_number-requires-clause-number g c =
    subst (λ (k : IntKind). g.V.Values.made c.converted.new.values k c.in_ok-found.found) (c.kind_at-kind.ensures ∙ c.requires.kinded) c.in_ok-found.ensures.makes

pub store_number-requires-clause-made : goal.store_number-requires-clause-made
store_number-requires-clause-made g c = still_made c.in_ok-found.ensures.keeps c.requires.made

pub returns-clause-makes : goal.returns-clause-makes
returns-clause-makes g c =
    c.in_ok-store_number.ensures.keeps.made_still _ _ (subst (λ (k : IntKind). g.V.Values.made c.converted.new.values k c.in_ok-found.found) c.kind_at-kind.ensures c.in_ok-found.ensures.makes)

pub returns-clause-follows : goal.returns-clause-follows
returns-clause-follows g c = λ x place m s served at.
    let shows = g.V.Values.shows in
    let G = g.O.RunSetting.setting c.args.out.now in
    let inputs = g.O.WalkSetting.under c.args.out.now m in
    let e = view_expression c.args.left.now in
    let t = type_in G.typing e in
    let n = converted t x in
    let k1 = c.in_ok-found.ensures.keeps in
    let k2 = c.in_ok-store_number.ensures.keeps in
    let v = c.in_ok-found.found in
    let shown = subst (λ (k : IntKind). shows c.converted.new.values m k v (wrap k x)) (c.kind_at-kind.ensures ∙ c.requires.kinded) (c.in_ok-found.ensures.value m x served.0 served.1) in
    let shown2 = subst (λ (k : IntKind). shows c.store_number.new.values m k v n) (sym c.requires.kinded) (k2.shown m _ _ _ shown) in
    leads_as (shows c.store_number.new.values m) G (λ z. z ≡ n) (λ z. shows c.store_number.new.values m (number_kind (G.typing.type_at c.args.node)) v z)
    (stored_at (path_world inputs) (target_of G e) (number_kind t) place n n s.numbers s.kept) s c.store_number.new.state
    (λ z same. subst (λ (y : ℤ). shows c.store_number.new.values m (number_kind (G.typing.type_at c.args.node)) v y) (sym same) shown2)
    (c.in_ok-store_number.ensures.stored m s inputs place n n (k1.served m served.0) shown (still_stands k1 m at))

pub returns-clause-keeps : goal.returns-clause-keeps
returns-clause-keeps g c = both_keep c.in_ok-found.ensures.keeps c.in_ok-store_number.ensures.keeps

pub returns-clause-cost : goal.returns-clause-cost
returns-clause-cost g c = costs_then (costs_store (rw c.kind_at-kind.ensures at c.in_ok-found.ensures.charge)) c.in_ok-store_number.ensures.cost

use Rattle.std.proofs.Common.{◌≡◌, pos, true, subst, ◌∙◌, length, ap}
use Rattle.stk_ctype.specs.declared.kind.IntKind.{IntKind}
use Rattle.stk_tree.specs.View.{view_expression}
use Rattle.stk_numbers.specs.Kinds.{wrap}
use Rattle.stk_meaning.specs.Typings.{type_in, number_kind, converted}
use Rattle.stk_meaning.specs.Operations.{operated}
use Rattle.stk_meaning.specs.Places.{target_of}
use Rattle.stk_meaning.specs.Paths.{path_world}
use Rattle.stk_meaning.specs.Expressions.{breaks, stored_at}
use Rattle.stk_operators.specs.Shown.{operation_shown}
use Rattle.stk_guarded.specs.Standing.{added}
use Rattle.stk_walking.proofs.Leading.{leads_after}
use Rattle.stk_walk_values.proofs.Lasting.{both_keep, still_made, still_stands}
use Rattle.stk_walking.proofs.Costing.{costs_then, costs_only, plus}
use Rattle.stk_walk_values.proofs.stores.checked_store.Goals as goal

pub check_operation-requires-clause-made : goal.check_operation-requires-clause-made
check_operation-requires-clause-made g c = still_made c.operated_in.ensures.keeps c.requires.made

pub store_number-requires-clause-number : goal.store_number-requires-clause-number
store_number-requires-clause-number g c =
    subst (λ (k : IntKind). g.V.Values.made c.check_operation.new.values k c.in_ok-number.number) c.kind_in-kind.ensures (c.in_ok-check_operation.ensures.keeps.made_still _ _ c.in_ok-number.ensures.makes)

pub returns-clause-makes : goal.returns-clause-makes
returns-clause-makes g c =
    let made = g.V.Values.made in
    c.in_ok-store_number.ensures.keeps.made_still _ _ (subst (λ (k : IntKind). made c.check_operation.new.values k c.in_ok-number.number) c.kind_in-kind.ensures (c.in_ok-check_operation.ensures.keeps.made_still _ _ c.in_ok-number.ensures.makes))

pub returns-clause-events : goal.returns-clause-events
returns-clause-events g c = λ f same. c.in_ok-store_number.ensures.events ∙ c.in_ok-check_operation.ensures.events f same

pub returns-clause-value : goal.returns-clause-value
returns-clause-value g c = λ m x y served hx hy.
    let shows = g.V.Values.shows in
    let z = operated (operation_shown c.args.operation) x y in
    let t = type_in (g.O.RunSetting.setting c.args.out.now).typing (view_expression c.args.left.now) in
    let a = c.in_ok-number.ensures.value m x y served hx hy in
    let a0 = subst (λ (k : IntKind). shows c.operated_in.new.values m k c.in_ok-number.number (wrap k z)) c.kind_in-kind.ensures a in
    c.in_ok-store_number.ensures.keeps.shown m _ _ _ (c.in_ok-check_operation.ensures.keeps.shown m _ _ _ a0)

pub returns-clause-stored : goal.returns-clause-stored
returns-clause-stored g c = λ m s inputs f a x y z served hx hy same at.
    let shows = g.V.Values.shows in
    let G = g.O.RunSetting.setting c.args.out.now in
    let e = view_expression c.args.left.now in
    let t = type_in G.typing e in
    let w = path_world inputs in
    let k1 = c.operated_in.ensures.keeps in
    let k2 = c.in_ok-check_operation.ensures.keeps in
    let s1 = k1.served m served in
    let n = converted t (operated (operation_shown c.args.operation) x y) in
    let shown = c.in_ok-number.ensures.value m x y served hx hy in
    let shown0 = subst (λ (k : IntKind). shows c.operated_in.new.values m k c.in_ok-number.number (wrap k (operated (operation_shown c.args.operation) x y))) c.kind_in-kind.ensures shown in
    let es = breaks G c.args.node true f x y (pos 0) in
    let at1 = c.in_ok-check_operation.ensures.stands m s f x y s1 (k1.shown m _ _ _ hx) (k1.shown m _ _ _ hy) same (still_stands k1 m at) in
    leads_after (shows c.check_operation.new.values m) (shows c.store_number.new.values m) G (λ v. v ≡ z) es (λ r k. stored_at w (target_of G e) (number_kind t) a n z r k) s c.store_number.new.state
    (c.in_ok-store_number.ensures.stored m (added es s) inputs a n z (k2.served m s1) (k2.shown m _ _ _ shown0) at1)

pub returns-clause-keeps : goal.returns-clause-keeps
returns-clause-keeps g c = both_keep c.operated_in.ensures.keeps (both_keep c.in_ok-check_operation.ensures.keeps c.in_ok-store_number.ensures.keeps)

pub returns-clause-cost : goal.returns-clause-cost
returns-clause-cost g c =
    let number = rw c.kind_in-kind.ensures at c.in_ok-number.ensures.charge in
    costs_then (costs_only (ap length c.in_ok-check_operation.ensures.cells) (plus _ _ _ number c.in_ok-check_operation.ensures.charge)) c.in_ok-store_number.ensures.cost

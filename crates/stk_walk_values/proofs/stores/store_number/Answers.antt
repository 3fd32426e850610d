use Rattle.std.proofs.Common.{sym, ap, subst, length}
use Rattle.stk_ctype.specs.declared.kind.IntKind.{IntKind}
use Rattle.stk_tree.specs.View.{view_expression}
use Rattle.stk_meaning.specs.Typings.{type_in, number_kind}
use Rattle.stk_meaning.specs.Places.{target_of}
use Rattle.stk_operators.specs.Targets.{target_shown}
use Rattle.stk_walk_values.proofs.Storing.{suits_as, stored_as}
use Rattle.stk_walking.proofs.Costing.{costs_within}
use Rattle.stk_walk_values.proofs.Spending.{store_within}
use Rattle.stk_walk_values.proofs.stores.store_number.Goals as goal

pub store_place-requires-clause-suits : goal.store_place-requires-clause-suits
store_place-requires-clause-suits g c =
    let G = g.O.RunSetting.setting c.args.out.now in
    let e = view_expression c.args.left.now in
    let n = c.node_of-node.result in
    suits_as G (target_shown c.target_of-target.result) (target_of G e) (number_kind (G.typing.type_at n)) (number_kind (type_in G.typing e)) c.target_of-target.ensures
    (ap (λ i. number_kind (G.typing.type_at i)) c.node_of-node.ensures) c.requires.stored.suits

pub store_place-requires-clause-value : goal.store_place-requires-clause-value
store_place-requires-clause-value g c =
    let G = g.O.RunSetting.setting c.args.out.now in
    subst (λ (k : IntKind). g.V.Values.made c.args.values.now k c.args.number) (sym (ap (λ i. number_kind (G.typing.type_at i)) c.node_of-node.ensures)) c.requires.number

pub returns-clause-stored : goal.returns-clause-stored
returns-clause-stored g c =
    let V = g.V.Values in
    let G = g.O.RunSetting.setting c.args.out.now in
    let e = view_expression c.args.left.now in
    let n = c.node_of-node.result in
    let before = c.args.values.now in
    stored_as (V.serves before) (V.shows before) (V.shows c.store_place.new.values) G (target_shown c.target_of-target.result) (target_of G e) (number_kind (G.typing.type_at n)) (number_kind (type_in G.typing e)) c.args.number c.args.state.now c.store_place.new.state
    c.target_of-target.ensures (ap (λ i. number_kind (G.typing.type_at i)) c.node_of-node.ensures) c.in_ok-store_place.ensures.stored

pub returns-clause-cost : goal.returns-clause-cost
returns-clause-cost g c =
    let G = g.O.RunSetting.setting c.args.out.now in
    let e = view_expression c.args.left.now in
    let n = c.node_of-node.result in
    costs_within _ (store_within (length G.kept) (target_shown c.target_of-target.result) (target_of G e) (number_kind (G.typing.type_at n)) (number_kind (type_in G.typing e)) c.target_of-target.ensures (ap (λ i. number_kind (G.typing.type_at i)) c.node_of-node.ensures)) (c.in_ok-store_place.ensures.cost (length G.kept))

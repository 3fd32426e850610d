use Rattle.std.proofs.Common.{◌≡◌, ap, ◌∙◌, subst, length}
use Rattle.stk_ctype.specs.declared.kind.IntKind.{IntKind}
use Rattle.stk_tree.specs.View.{view_expression}
use Rattle.stk_tree.specs.Parts.{bare}
use Rattle.stk_meaning.specs.Typings.{type_in, number_kind, node_of}
use Rattle.stk_meaning.specs.Places.{target_of}
use Rattle.stk_operators.specs.Targets.{target_shown}
use Rattle.stk_walk_values.proofs.Storing.{suits_as, read_as}
use Rattle.stk_walking.proofs.Costing.{costs_within}
use Rattle.stk_walk_values.proofs.Spending.{read_within}
use Rattle.stk_walk_values.proofs.stores.old_number.Goals as goal

pub read_place-requires-clause-suits : goal.read_place-requires-clause-suits
read_place-requires-clause-suits g c =
    let G = g.O.RunSetting.setting c.args.out.now in
    let e = view_expression c.args.left.now in
    let n = c.node_of-node.result in
    let is : n ≡ node_of (bare e) = c.node_of-node.ensures ∙ ap node_of c.bare.ensures in
    suits_as G (target_shown c.target_of-target.result) (target_of G e) (number_kind (G.typing.type_at n)) (number_kind (type_in G.typing e)) c.target_of-target.ensures
    (ap (λ i. number_kind (G.typing.type_at i)) is ∙ c.requires.stored.inside) c.requires.stored.suits

pub returns-clause-makes : goal.returns-clause-makes
returns-clause-makes g c =
    let G = g.O.RunSetting.setting c.args.out.now in
    let e = view_expression c.args.left.now in
    let n = c.node_of-node.result in
    let is : n ≡ node_of (bare e) = c.node_of-node.ensures ∙ ap node_of c.bare.ensures in
    subst (λ (k : IntKind). g.V.Values.made c.read_place.new.values k c.in_ok-found.found) (ap (λ i. number_kind (G.typing.type_at i)) is ∙ c.requires.stored.inside) c.in_ok-found.ensures.makes

pub returns-clause-follows : goal.returns-clause-follows
returns-clause-follows g c =
    let V = g.V.Values in
    let G = g.O.RunSetting.setting c.args.out.now in
    let e = view_expression c.args.left.now in
    let n = c.node_of-node.result in
    let is : n ≡ node_of (bare e) = c.node_of-node.ensures ∙ ap node_of c.bare.ensures in
    let before = c.args.values.now in
    read_as (V.serves before) (V.shows before) (V.shows c.read_place.new.values) G (g.O.WalkSetting.under c.args.out.now)
    (target_shown c.target_of-target.result) (target_of G e) n (node_of (bare e)) (number_kind (G.typing.type_at n)) (number_kind (type_in G.typing e)) c.in_ok-found.found c.args.state.now c.read_place.new.state
    c.target_of-target.ensures is (ap (λ i. number_kind (G.typing.type_at i)) is ∙ c.requires.stored.inside) c.in_ok-found.ensures.follows

pub returns-clause-cost : goal.returns-clause-cost
returns-clause-cost g c =
    let G = g.O.RunSetting.setting c.args.out.now in
    let e = view_expression c.args.left.now in
    let n = c.node_of-node.result in
    let is : n ≡ node_of (bare e) = c.node_of-node.ensures ∙ ap node_of c.bare.ensures in
    costs_within _ (read_within (target_shown c.target_of-target.result) (target_of G e) (number_kind (G.typing.type_at n)) (number_kind (type_in G.typing e)) c.target_of-target.ensures (ap (λ i. number_kind (G.typing.type_at i)) is ∙ c.requires.stored.inside)) (c.in_ok-found.ensures.cost (length G.kept))

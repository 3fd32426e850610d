use Rattle.std.proofs.Common.{◌≡◌, ◌+◌, ℕ, pos, sym, ap, ◌∙◌, subst, length}
use Rattle.stk_ctype.specs.declared.kind.IntKind.{IntKind}
use Rattle.stk_ctype.specs.declared.kind.IntKind.TheVariants.{ULong}
use Rattle.stk_tree.specs.Syntax as s
use Rattle.stk_tree.specs.View.{view_expression}
use Rattle.stk_meaning.specs.Typings.{type_in, number_kind, pointed}
use Rattle.stk_meaning.specs.Operations.{to_address}
use Rattle.stk_meaning.specs.Expressions.{breaks}
use Rattle.stk_walking.proofs.Carried.{is_made_still}
use Rattle.stk_walk_values.proofs.Asking.{target_asked}
use Rattle.stk_walk_values.proofs.Checking.{walks_checked}
use Rattle.stk_walking.proofs.Costing.{costs_only, at_most, plus}
use Rattle.stk_walk_values.proofs.steps.arrow_place.Goals as goal

pub behind-requires : goal.behind-requires
behind-requires g c =
    let G = g.O.RunSetting.setting c.args.out.now in
    let kind = c.kind_at.ensures ∙ ap (λ i. number_kind (G.typing.type_at i)) c.node_of-at.ensures in
    subst (λ (k : IntKind). g.V.Values.made c.args.values.now k c.args.value) (sym kind) c.requires.value

pub check_one-requires-clause-first : goal.check_one-requires-clause-first
check_one-requires-clause-first g c =
    let G = g.O.RunSetting.setting c.args.out.now in
    let kind = c.kind_at.ensures ∙ ap (λ i. number_kind (G.typing.type_at i)) c.node_of-at.ensures in
    c.in_ok-address.ensures.keeps.made_still _ _ (subst (λ (k : IntKind). g.V.Values.made c.args.values.now k c.args.value) (sym kind) c.requires.value)

pub check_one-requires-clause-asked : goal.check_one-requires-clause-asked
check_one-requires-clause-asked g c = target_asked c.kind_at.result c.target_tests-tests.result c.args.accessed c.target_tests-tests.ensures.is

pub check_one-requires-clause-made : goal.check_one-requires-clause-made
check_one-requires-clause-made g c = is_made_still (g.V.Values.made c.args.values.now) (g.V.Values.made c.behind.new.values) c.in_ok-address.ensures.keeps.made_still (g.O.RunSetting.setting c.args.out.now) c.args.state.now c.requires.ready.values_made

pub returns-clause-walks : goal.returns-clause-walks
returns-clause-walks g c = λ x.
    let V = g.V.Values in
    let G = g.O.RunSetting.setting c.args.out.now in
    let e = view_expression c.args.e.now in
    let f = s.arrow e c.args.name in
    let kind : c.kind_at.result ≡ number_kind (type_in G.typing e) = c.kind_at.ensures ∙ ap (λ i. number_kind (G.typing.type_at i)) c.node_of-at.ensures in
    let offset : c.pointed_offset.result ≡ G.typing.offset_of (pointed (type_in G.typing e)) c.args.name = c.pointed_offset.ensures ∙ ap (λ i. G.typing.offset_of (pointed (G.typing.type_at i)) c.args.name) c.node_of-at.ensures in
    let k1 = c.in_ok-address.ensures.keeps in
    let e2 = c.in_ok-check_one.ensures in
    let same = sym c.target_tests-tests.ensures.is in
    walks_checked (to_address (pos (to_address x + G.typing.offset_of (pointed (type_in G.typing e)) c.args.name))) (breaks G c.args.node c.args.accessed f x (pos 0) (pos 0)) k1 (e2.keeps.made_still _ _ c.in_ok-address.ensures.makes) e2.made (e2.events c.args.accessed f same) e2.keeps
    (λ m s before served hx at. e2.stands m s x c.args.accessed f served (k1.shown m _ _ _ (subst (λ (k : IntKind). V.shows c.args.values.now m k c.args.value x) (sym kind) hx)) same at)
    (λ m served hx.
    let found = c.in_ok-address.ensures.value m x served (subst (λ (k : IntKind). V.shows c.args.values.now m k c.args.value x) (sym kind) hx) in
    e2.keeps.shown m _ _ _ (subst (λ (n : ℕ). V.shows c.behind.new.values m ULong c.in_ok-address.address (pos (to_address (pos (to_address x + n))))) offset found))

pub returns-clause-cost : goal.returns-clause-cost
returns-clause-cost g c =
    let G = g.O.RunSetting.setting c.args.out.now in
    let e = view_expression c.args.e.now in
    let kind : c.kind_at.result ≡ number_kind (type_in G.typing e) = c.kind_at.ensures ∙ ap (λ i. number_kind (G.typing.type_at i)) c.node_of-at.ensures in
    let tests = rw kind at (at_most _ c.in_ok-check_one.ensures.charge (c.target_tests-tests.ensures.charge c.kind_at.result c.kind_at.result)) in
    costs_only (ap length c.in_ok-check_one.ensures.cells) (plus _ _ _ c.in_ok-address.ensures.charge tests)

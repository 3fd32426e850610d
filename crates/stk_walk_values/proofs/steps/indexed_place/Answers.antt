use Rattle.std.proofs.Common.{◌≡◌, false, ℕ, pos, sym, ap, ◌∙◌, subst, length}
use Rattle.stk_ctype.specs.declared.kind.IntKind.TheVariants.{ULong}
use Rattle.stk_tree.specs.Syntax as s
use Rattle.stk_tree.specs.View.{view_expression}
use Rattle.stk_numbers.specs.Values.{moved}
use Rattle.stk_meaning.specs.Typings.{type_in, stride_in}
use Rattle.stk_meaning.specs.Operations.{to_address}
use Rattle.stk_meaning.specs.Conditions.{index_tests}
use Rattle.stk_meaning.specs.Expressions.{breaks}
use Rattle.stk_walking.proofs.Carried.{is_made_still}
use Rattle.stk_walk_values.proofs.Asking.{index_asked}
use Rattle.stk_walk_values.proofs.Checking.{walks_checked}
use Rattle.stk_walking.proofs.Costing.{costs_only, at_most, plus}
use Rattle.stk_walk_values.proofs.steps.indexed_place.Goals as goal

pub check_two-requires-clause-asked : goal.check_two-requires-clause-asked
check_two-requires-clause-asked g c =
    let ty = (g.O.RunSetting.setting c.args.out.now).typing in
    let t = ty.type_at c.node_of-at.result in
    index_asked c.args.pair.0.kind c.index_tests-tests.result c.args.accessed t (stride_in ty t) c.index_tests-tests.ensures.is

pub check_two-requires-clause-made : goal.check_two-requires-clause-made
check_two-requires-clause-made g c = is_made_still (g.V.Values.made c.args.values.now) (g.V.Values.made c.moved_address.new.values) c.in_ok-address.ensures.keeps.made_still (g.O.RunSetting.setting c.args.out.now) c.args.state.now c.requires.ready.values_made

pub returns-clause-walks : goal.returns-clause-walks
returns-clause-walks g c = λ right x y.
    let V = g.V.Values in
    let G = g.O.RunSetting.setting c.args.out.now in
    let a = view_expression c.args.left.now in
    let f = s.index a right in
    let n = c.args.node in
    let k1 = c.in_ok-address.ensures.keeps in
    let e2 = c.in_ok-check_two.ensures in
    let same = sym (c.index_tests-tests.ensures.is ∙ ap (λ i. index_tests c.args.accessed (G.typing.type_at i) (stride_in G.typing (G.typing.type_at i))) c.node_of-at.ensures) in
    let stride : c.stride_at.result ≡ stride_in G.typing (type_in G.typing a) = c.stride_at.ensures ∙ ap (λ i. stride_in G.typing (G.typing.type_at i)) c.node_of-at.ensures in
    walks_checked (moved (to_address x) y (stride_in G.typing (type_in G.typing a)) false) (breaks G n c.args.accessed f x y (pos 0)) k1 (e2.keeps.made_still _ _ c.in_ok-address.ensures.makes) e2.made (e2.events c.args.accessed f same) e2.keeps
    (λ m s before served h at. e2.stands m s x y c.args.accessed f served (k1.shown m _ _ _ h.0) (k1.shown m _ _ _ h.1) same at)
    (λ m served h.
    let found = c.in_ok-address.ensures.value m x y served h.0 h.1 in
    e2.keeps.shown m _ _ _ (subst (λ (z : ℕ). V.shows c.moved_address.new.values m ULong c.in_ok-address.address (pos (moved (to_address x) y z false))) stride found))

pub returns-clause-cost : goal.returns-clause-cost
returns-clause-cost g c =
    let G = g.O.RunSetting.setting c.args.out.now in
    let a = view_expression c.args.left.now in
    let stride : c.stride_at.result ≡ stride_in G.typing (type_in G.typing a) = c.stride_at.ensures ∙ ap (λ i. stride_in G.typing (G.typing.type_at i)) c.node_of-at.ensures in
    let address = rw stride at c.in_ok-address.ensures.charge in
    let tests = rw c.node_of-at.ensures at (at_most _ c.in_ok-check_two.ensures.charge (c.index_tests-tests.ensures.charge c.args.pair.0.kind c.args.pair.1.kind)) in
    costs_only (ap length c.in_ok-check_two.ensures.cells) (plus _ _ _ address tests)

use Rattle.std.proofs.Common.{pos, sym, length, ap}
use Rattle.stk_tree.specs.Syntax as s
use Rattle.stk_tree.specs.declared.expression.UnaryOp.TheVariants as unary
use Rattle.stk_meaning.specs.Operations.{to_address}
use Rattle.stk_meaning.specs.Expressions.{breaks}
use Rattle.stk_walking.proofs.Carried.{is_made_still}
use Rattle.stk_walk_values.proofs.Asking.{target_asked}
use Rattle.stk_walk_values.proofs.Checking.{walks_checked}
use Rattle.stk_walking.proofs.Costing.{costs_only, at_most, free_first}
use Rattle.stk_walk_values.proofs.steps.target_place.Goals as goal

pub check_one-requires-clause-asked : goal.check_one-requires-clause-asked
check_one-requires-clause-asked g c = target_asked c.args.pointer.kind c.target_tests-tests.result c.args.accessed c.target_tests-tests.ensures.is

pub check_one-requires-clause-made : goal.check_one-requires-clause-made
check_one-requires-clause-made g c = is_made_still (g.V.Values.made c.args.values.now) (g.V.Values.made c.to_address.new.values) c.in_ok-address.ensures.keeps.made_still (g.O.RunSetting.setting c.args.out.now) c.args.state.now c.requires.ready.values_made

pub returns-clause-walks : goal.returns-clause-walks
returns-clause-walks g c = λ e x.
    let G = g.O.RunSetting.setting c.args.out.now in
    let f = s.unary unary.Deref e in
    let k1 = c.in_ok-address.ensures.keeps in
    let e2 = c.in_ok-check_one.ensures in
    let same = sym c.target_tests-tests.ensures.is in
    walks_checked (to_address x) (breaks G c.args.node c.args.accessed f x (pos 0) (pos 0)) k1 (e2.keeps.made_still _ _ c.in_ok-address.ensures.makes) e2.made (e2.events c.args.accessed f same) e2.keeps
    (λ m s before served hx at. e2.stands m s x c.args.accessed f served (k1.shown m _ _ _ hx) same at) (λ m served hx. e2.keeps.shown m _ _ _ (c.in_ok-address.ensures.value m x served hx))

pub returns-clause-cost : goal.returns-clause-cost
returns-clause-cost g c = costs_only (ap length c.in_ok-check_one.ensures.cells) (at_most _ (free_first _ c.in_ok-address.ensures.charge c.in_ok-check_one.ensures.charge) (c.target_tests-tests.ensures.charge c.args.pointer.kind c.args.pointer.kind))

use Rattle.std.proofs.Common.{◌≡◌, ◌+◌, [], drop, map, refl, arith}
use Rattle.std.proofs.lemmas.List.{drop_all}
use Rattle.stk_tree.specs.View.{view_expression, view_item, items}
use Rattle.stk_meaning.specs.Worlds.{Normal, gives}
use Rattle.stk_meaning.specs.Declarations.{items_run, item_run}
use Rattle.stk_eval_expr.specs.Leaving.{from, value_run}
use Rattle.stk_eval_expr.proofs.LeavingLaws.{then_leaves, value_leaves}
use Rattle.stk_exec_stmt.proofs.Flowing.{next_of}
use Rattle.stk_exec_stmt.proofs.InitialViews.{at_plain}
use Rattle.stk_exec_stmt.proofs.declarations.+initialiser.Goals as goal

pub items-loop-x-preserved : goal.items-loop-x-preserved
items-loop-x-preserved g t c =
    λ now h.
    let G = g.W.RunSetting.setting c.args.out.now in
    let W = g.W.World.world c.args.out.now in
    let shown = g.W.World.shown in
    let step = next_of c.args.list.now c.loop-x.x-index c.x-item.result c.loop-x-test.true c.x-item.is in
    let x = view_item c.x-item.result in
    let xs = items (map view_item (drop (c.loop-x.x-index + 1) c.args.list.now)) in
    c.loop-x.invariant now (rw step (then_leaves (from shown (item_run G W x) c.loop-x.state) (λ flow r m. items_run G W xs r m) Normal Normal c.loop-x.state c.item.new.state now c.in_ok-item.ensures h))

pub items-returns : goal.items-returns
items-returns g t c =
    let s = c.loop-x.state in
    let none : drop c.loop-x.x-index c.args.list.now ≡ [] = drop_all c.loop-x.x-index c.args.list.now (omega arith) in
    c.loop-x.invariant s (rw none (value_leaves Normal Normal s refl))

pub initialiser-returns-in_ok-_number-in-Plain : goal.initialiser-returns-in_ok-_number-in-Plain
initialiser-returns-in_ok-_number-in-Plain g t c =
    let G = g.W.RunSetting.setting c.args.out.now in
    let W = g.W.World.world c.args.out.now in
    let shown = g.W.World.shown in
    let s0 = c.args.state.now in
    let s1 = c.value.new.state in
    rw (at_plain c.args.x.now c.in-Plain.e c.in-Plain.is)
    (then_leaves (value_run shown G W (view_expression c.in-Plain.e) s0) (λ x. gives Normal) c.in_ok-_number-in-Plain._number Normal s0 s1 s1 c.in_ok-_number-in-Plain.ensures (value_leaves Normal Normal s1 refl))

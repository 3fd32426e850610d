use Rattle.std.proofs.Common.{◌≡◌, ◌+◌, [], drop, map, refl, arith}
use Rattle.std.proofs.lemmas.List.{drop_all}
use Rattle.stk_tree.specs.View.{view_declarator, declarators}
use Rattle.stk_meaning.specs.Worlds.{Normal}
use Rattle.stk_meaning.specs.Declarations.{declarators_run, declarator_run}
use Rattle.stk_eval_expr.specs.Leaving.{from}
use Rattle.stk_eval_expr.proofs.LeavingLaws.{then_leaves, value_leaves}
use Rattle.stk_exec_stmt.proofs.Flowing.{next_of}
use Rattle.stk_exec_stmt.proofs.declarations.declarators.Goals as goal

pub loop-d-preserved : goal.loop-d-preserved
loop-d-preserved g c =
    λ now h.
    let G = g.W.RunSetting.setting c.args.out.now in
    let W = g.W.World.world c.args.out.now in
    let shown = g.W.World.shown in
    let step = next_of c.args.list.now c.loop-d.d-index c.d-item.result c.loop-d-test.true c.d-item.is in
    let d = view_declarator c.d-item.result in
    let ds = declarators (map view_declarator (drop (c.loop-d.d-index + 1) c.args.list.now)) in
    c.loop-d.invariant now (rw step (then_leaves (from shown (declarator_run G W c.args.lasts d) c.loop-d.state) (λ flow r m. declarators_run G W c.args.lasts ds r m) Normal Normal c.loop-d.state c.declarator.new.state now c.in_ok-declarator.ensures h))

pub returns : goal.returns
returns g c =
    let s = c.loop-d.state in
    let none : drop c.loop-d.d-index c.args.list.now ≡ [] = drop_all c.loop-d.d-index c.args.list.now (omega arith) in
    c.loop-d.invariant s (rw none (value_leaves Normal Normal s refl))

use Rattle.std.proofs.Common.{drop, map}
use Rattle.stk_tree.specs.View.{view_item, items}
use Rattle.stk_meaning.specs.Worlds.{Normal}
use Rattle.stk_meaning.specs.Declarations.{items_run}
use Rattle.stk_eval_expr.specs.declared.state.State.{State}
use Rattle.stk_eval_expr.specs.Leaving.{Leaves, from}
use Rattle.stk_exec_stmt.proofs.declarations.+initialiser.Given as goal

-- what completes the rest completes the whole
abbrev pub invariant-items-loop-x : goal.invariant-items-loop-x
invariant-items-loop-x g l =
    let G = g.W.RunSetting.setting l.out in
    let W = g.W.World.world l.out in
    let shown = g.W.World.shown in
    (now : State _) →
    Leaves shown (from shown (items_run G W (items (map view_item (drop l.x-index l.list)))) l.state) Normal l.state now →
    Leaves shown (from shown (items_run G W (items (map view_item l.list))) l.initial.state) Normal l.initial.state now

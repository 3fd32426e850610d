use Rattle.std.proofs.Common.{drop, map}
use Rattle.stk_tree.specs.View.{view_declarator, declarators}
use Rattle.stk_meaning.specs.Worlds.{Normal}
use Rattle.stk_meaning.specs.Declarations.{declarators_run}
use Rattle.stk_eval_expr.specs.declared.state.State.{State}
use Rattle.stk_eval_expr.specs.Leaving.{Leaves, from}
use Rattle.stk_exec_stmt.proofs.declarations.declarators.Given as goal

-- what completes the rest completes the whole
abbrev pub invariant-loop-d : goal.invariant-loop-d
invariant-loop-d g l =
    let G = g.W.RunSetting.setting l.out in
    let W = g.W.World.world l.out in
    let shown = g.W.World.shown in
    (now : State _) →
    Leaves shown (from shown (declarators_run G W l.lasts (declarators (map view_declarator (drop l.d-index l.list)))) l.state) Normal l.state now →
    Leaves shown (from shown (declarators_run G W l.lasts (declarators (map view_declarator l.list))) l.initial.state) Normal l.initial.state now

use Rattle.std.proofs.Common.{refl, subst, sym, Option}
use Rattle.stk_tree.specs.View.{view_statement}
use Rattle.stk_meaning.specs.Worlds.{Flow}
use Rattle.stk_meaning.specs.Statements.{statement_run}
use Rattle.stk_eval_expr.specs.Shown.{flow_shown}
use Rattle.stk_exec_stmt.specs.Ending.{RunsTo}
use Rattle.stk_exec_stmt.proofs.Flowing.{whole_leaves}
use Rattle.stk_exec_stmt.proofs.running.bounded_run.Goals as goal

pub returns : goal.returns
returns g c =
    let R = statement_run (g.W.RunSetting.setting c.args.out.now) (g.W.World.world c.args.out.now) (view_statement c.args.body.now) c.args.registers.items (g.W.World.shown c.args.kept) in
    subst (λ (o : Option Flow). RunsTo R c.args.most c.statement.new.state.entries.items o) (sym c.ended-flow.ensures)
    (whole_leaves R (flow_shown c.in_ok-flow.flow) _ c.statement.new.state refl c.new.ensures.items c.in_ok-flow.ensures)

use Rattle.std.proofs.Common.{option_map, arith}
use Rattle.stk_tree.specs.View.{view_statement}
use Rattle.stk_meaning.specs.Statements.{statement_run}
use Rattle.stk_eval_expr.specs.Shown.{flow_shown}
use Rattle.stk_exec_stmt.proofs.Flowing.{whole_trace}
use Rattle.stk_exec_stmt.proofs.running.run_body.Goals as goal

pub returns : goal.returns
returns g c =
    let R = statement_run (g.W.RunSetting.setting c.args.out.now) (g.W.World.world c.args.out.now) (view_statement c.args.body.now) c.args.registers.items (g.W.World.shown c.args.kept) in
    let run = c.in_ok-run.run' in
    whole_trace R _ run.entries.items (option_map flow_shown run.flow) (omega (arith, run.entries.ok.0)) c.in_ok-run.ensures

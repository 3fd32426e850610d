use Rattle.std.proofs.Common.{map, ap}
use Rattle.stk_tree.specs.View.{view_function}
use Rattle.stk_function_types.specs.Visits.{marked_visit}
use Rattle.stk_function_env.specs.Infos.{info_in}
use Rattle.stk_path_runs.proofs.Numbered.{tables_know}
use Rattle.stk_path_runs.proofs.tables.FunctionTables.new.Goals as goal

pub returns-clause-loops : goal.returns-clause-loops
returns-clause-loops c =
    tables_know c.args.setting.now (view_function c.args.f.now) c.types.result.now (map marked_visit c.as_slice.result.now) (map marked_visit c.in_ok-visits.visits.items) c.in_ok-index.index (map info_in c.keys.result.now) c.in_ok-loops.loops.rows.items c.types.ensures c.in_ok-visits.ensures (ap (map marked_visit) c.as_slice.ensures.value) c.keys.ensures c.in_ok-index.ensures c.in_ok-loops.ensures.rows

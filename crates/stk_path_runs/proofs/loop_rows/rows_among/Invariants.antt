use Rattle.std.proofs.Common.{◌≡◌, List, [], drop, map}
use Rattle.stk_meaning.specs.Keys as runs
use Rattle.stk_function_types.specs.Visits.{marked_visit}
use Rattle.stk_function_types.specs.Gathered.{gathered}
use Rattle.stk_function_env.specs.Settings.{setting_in}
use Rattle.stk_path_runs.specs.declared.loop_rows.LoopRow.{LoopRow}
use Rattle.stk_path_runs.specs.Places.{IsKeyIndex}
use Rattle.stk_path_runs.specs.Rows.{AddsRows, AreRowPlaces, visit_loops}
use Rattle.stk_path_runs.proofs.loop_rows.rows_among.Given as goal

abbrev pub invariant-loop-visit : goal.invariant-loop-visit
invariant-loop-visit l = record {
  places : AreRowPlaces l.out;
  rows : (keys : List runs.KeyInfo) (now : List LoopRow) → IsKeyIndex l.index keys
      → AddsRows (setting_in l.setting) keys (gathered visit_loops (map marked_visit (drop l.visit-index l.visits))) l.out.rows.items now
      → AddsRows (setting_in l.setting) keys (gathered visit_loops (map marked_visit l.visits)) [] now;
}

use Rattle.std.proofs.Common.{map, take}
use Rattle.stk_function_env.specs.Infos.{info_in}
use Rattle.stk_path_runs.specs.Places.{IsKeyIndex}
use Rattle.stk_path_runs.proofs.key_index.KeyIndex.of.Given as goal

abbrev pub invariant-loop-place : goal.invariant-loop-place
invariant-loop-place l = IsKeyIndex l.index (map info_in (take l.place l.keys))

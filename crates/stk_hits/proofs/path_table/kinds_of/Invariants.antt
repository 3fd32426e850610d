use Rattle.std.proofs.Common.{◌≡◌, ◌++◌, map, drop}
use Rattle.stk_function_env.specs.Infos.{info_in}
use Rattle.stk_hits.specs.PathSubjects as subjects
use Rattle.stk_hits.proofs.path_table.kinds_of.Given as goal

abbrev pub invariant-loop-info : goal.invariant-loop-info
invariant-loop-info l = l.kinds.items ++ subjects.kinds_of (map info_in (drop l.info-index l.keys)) ≡ subjects.kinds_of (map info_in l.keys)

use Rattle.std.proofs.Common.{◌≡◌, ◌++◌, drop, map}
use Rattle.stk_function_env.specs.Infos.{info_in}
use Rattle.stk_first_maps.specs.Words.{wrapped_by}
use Rattle.stk_first_maps.proofs.words.words_of.Given as goal

abbrev pub invariant-loop-info : goal.invariant-loop-info
invariant-loop-info l = l.words.items ++ wrapped_by (map info_in (drop l.info-index l.keys)) l.rest ≡ wrapped_by (map info_in l.keys) l.numbers

use Rattle.std.proofs.Common.{◌↔◌, map, drop}
use Rattle.stk_meaning.specs.Maps.{AreInRange}
use Rattle.stk_function_env.specs.Infos.{info_in}
use Rattle.stk_replay_input.proofs.named.are_in_range.Given as goal

abbrev pub invariant-loop-info : goal.invariant-loop-info
invariant-loop-info l = AreInRange (map info_in l.fn.keys) l.fn.numbers ↔ AreInRange (map info_in (drop l.info-index l.keys)) l.rest

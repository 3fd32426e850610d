use Rattle.std.proofs.Common.{◌≡◌, ◌+◌, ◌*◌, ◌≤◌, drop, map}
use Rattle.stk_meaning.specs.Keys.{input_bits}
use Rattle.stk_function_env.specs.Infos.{info_in}
use Rattle.stk_path_runs.proofs.bits.input_bits.Given as goal

abbrev pub invariant-loop-info : goal.invariant-loop-info
invariant-loop-info l = record {
  sum : l.bits + input_bits (map info_in (drop l.info-index l.keys)) ≡ input_bits (map info_in l.keys);
  small : l.bits ≤ 255 * l.info-index;
}

use Rattle.std.proofs.Common.{◌≤◌, drop, length, map}
use Rattle.stk_ctype.specs.Index.{IsIndexOf}
use Rattle.stk_function_env.specs.Settings.{mention_in, words_behind}
use Rattle.stk_function_env.proofs.mentions.mentions_index.Given as goal

abbrev pub decreases-loop-left : goal.decreases-loop-left
decreases-loop-left l = l.left

abbrev pub invariant-loop-left : goal.invariant-loop-left
invariant-loop-left l = record {
  below : l.left ≤ length l.mentions;
  indexed : IsIndexOf l.index (words_behind (map (mention_in l.bytes) (drop l.left l.mentions)));
}

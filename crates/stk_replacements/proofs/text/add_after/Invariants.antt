use Rattle.std.proofs.Common.{◌≡◌, ◌++◌, length, map}
use Rattle.stk_meaning.specs.Replacements.{spelled}
use Rattle.stk_replacements.specs.Spaced.{each_after}
use Rattle.stk_replacements.proofs.text.add_after.Given as goal

abbrev pub invariant-loop-token : goal.invariant-loop-token
invariant-loop-token l = l.out.items ++ each_after (map (spelled l.bytes) l.tokens) ≡ l.initial.out.items ++ each_after (map (spelled l.bytes) l.initial.tokens)

abbrev pub decreases-loop-token : goal.decreases-loop-token
decreases-loop-token l = length l.tokens

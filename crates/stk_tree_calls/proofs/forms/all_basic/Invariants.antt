use Rattle.std.proofs.Common.{◌≡◌, drop}
use Rattle.stk_tree.specs.Placed.{all_basic}
use Rattle.stk_tree_calls.proofs.forms.all_basic.Given as goal

abbrev pub invariant-loop-word : goal.invariant-loop-word
invariant-loop-word l = all_basic (drop l.word-index l.words) ≡ all_basic l.words

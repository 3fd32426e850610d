use Rattle.std.proofs.Common.{◌≡◌, ◌++◌, drop}
use Rattle.stk_tree.specs.Tokens.{reserved}
use Rattle.stk_tree_calls.proofs.punctuators.put_words.Given as goal

abbrev pub invariant-loop-word : goal.invariant-loop-word
invariant-loop-word l = l.out.items ++ reserved (drop l.word-index l.words) ≡ l.initial.out.items ++ reserved l.words

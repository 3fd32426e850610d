use Rattle.std.proofs.Common.{◌≡◌, ◌++◌, take, drop}
use Rattle.stk_proofs.specs.FirstWord.{front_word, behind_word}
use Rattle.stk_proofs.proofs.words.word_length.Given as goal

abbrev pub invariant-loop-i : goal.invariant-loop-i
invariant-loop-i l = record {
  front : front_word l.text ≡ take l.i l.text ++ front_word (drop l.i l.text);
  behind : behind_word l.text ≡ behind_word (drop l.i l.text);
}

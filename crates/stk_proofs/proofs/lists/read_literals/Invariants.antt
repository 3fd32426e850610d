use Rattle.std.proofs.Common.{◌≡◌, ◌≤◌, length}
use Rattle.stk_proofs.specs.Words.{words_of}
use Rattle.stk_proofs.specs.Entries.{literal_entry, in_front, listed}
use Rattle.stk_proofs.proofs.lists.read_literals.Given as goal

abbrev pub invariant-loop-word : goal.invariant-loop-word
invariant-loop-word l = record {
  same : in_front l.found.items (listed (literal_entry l.most) (words_of l.rest)) ≡ listed (literal_entry l.most) (words_of l.text);
  within : length l.rest ≤ length l.text;
}

abbrev pub decreases-loop-word : goal.decreases-loop-word
decreases-loop-word l = length l.rest

use Rattle.std.proofs.Common.{◌≡◌, ◌≤◌, length}
use Rattle.stk_proofs.specs.Words.{words_of}
use Rattle.stk_proofs.specs.Entries.{hint_entry, in_front, listed}
use Rattle.stk_proofs.proofs.lists.read_hints.Given as goal

abbrev pub invariant-loop-word : goal.invariant-loop-word
invariant-loop-word l = record {
  same : in_front l.found.items (listed hint_entry (words_of l.rest)) ≡ listed hint_entry (words_of l.text);
  within : length l.rest ≤ length l.text;
}

abbrev pub decreases-loop-word : goal.decreases-loop-word
decreases-loop-word l = length l.rest

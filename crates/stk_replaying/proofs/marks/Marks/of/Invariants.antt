use Rattle.std.proofs.Common.{◌≡◌, ◌||◌, drop}
use Rattle.std.specs.List.{list_any}
use Rattle.stk_numbers.specs.declared.conditions.Candidate.{Candidate}
use Rattle.stk_meaning.specs.Hits.{hits}
use Rattle.stk_replaying.specs.Marks.{is_marked}
use Rattle.stk_replaying.proofs.marks.Marks.of.Given as goal

-- what is marked and what is left are what the trace hits
abbrev pub invariant-loop-entry : goal.invariant-loop-entry
invariant-loop-entry l = (c : Candidate) → list_any (hits c) l.trace ≡ (is_marked l.marks c || list_any (hits c) (drop l.entry-index l.trace))

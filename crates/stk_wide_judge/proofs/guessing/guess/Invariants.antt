use Rattle.std.proofs.Common.{◌≡◌, ◌≤◌, length}
use Rattle.stk_numbers.specs.declared.conditions.Candidate.{Candidate}
use Rattle.stk_meaning.specs.Findings.{NoAnswer}
use Rattle.stk_hits.specs.Tables.{rows_of}
use Rattle.stk_guess.proofs.Deletion.{IsNeededBehind}
use Rattle.stk_wide_judge.specs.Wide.{AskedFunction}
use Rattle.stk_wide_judge.specs.Starts.{AreKnown, known_of}
use Rattle.stk_wide_judge.proofs.guessing.guess.Given as goal

abbrev pub invariant-members : goal.invariant-members
invariant-members l =
    let k = l.guessing.known.now in
    let all = l.guessing.conditions.now in
    record {
      within : l.end ≤ length all;
      set : (a : AskedFunction) (c : Candidate) → AreKnown a k.starts.items k.table → l.guessing.rows.now ≡ rows_of c k.table.hits → NoAnswer (known_of a k.starts.items) c all → IsNeededBehind (known_of a k.starts.items) c all l.end l.needs.items;
    }

abbrev pub decreases-members : goal.decreases-members
decreases-members l = l.end

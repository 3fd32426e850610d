use Rattle.std.proofs.Common.{◌≡◌, ◌<◌, ◌≤◌, ◌-◌, ◌++◌, take, reverse}
use Rattle.stk_numbers.specs.declared.conditions.Candidate.{Candidate}
use Rattle.stk_meaning.specs.Findings.{members, NoAnswer}
use Rattle.stk_hits.specs.Tables.{rows_of}
use Rattle.stk_wide_judge.specs.Wide.{AskedFunction}
use Rattle.stk_wide_judge.specs.Starts.{AreKnown, known_of}
use Rattle.stk_wide_judge.specs.Guesses.{IsBetween}
use Rattle.stk_wide_judge.proofs.guessing.last_member.Given as goal

abbrev pub invariant-halves : goal.invariant-halves
invariant-halves l =
    let k = l.guessing.known.now in
    let all = l.guessing.conditions.now in
    record {
      less : l.low < l.high;
      within : l.high ≤ l.fn.end;
      between : (a : AskedFunction) (c : Candidate) → AreKnown a k.starts.items k.table → l.guessing.rows.now ≡ rows_of c k.table.hits → NoAnswer (known_of a k.starts.items) c (take l.fn.end all ++ members (reverse l.needs)) → IsBetween a k.starts.items c all l.needs l.low l.high l.start;
    }

abbrev pub decreases-halves : goal.decreases-halves
decreases-halves l = l.high - l.low

-- The numbers of a summary.
use Rattle.std.specs.Prelude.{◌+◌, ◌<◌, ◌^◌}
use Rattle.stk_records.specs.declared.counts.Counts.{Counts}

-- nothing is counted yet
abbrev pub nothing_counted : Counts
nothing_counted = record { functions = 0; candidates = 0; unstable = 0; undecided = 0; skipped = 0 }

-- the counts of two parts of a file together
abbrev pub counts_sum : Counts → Counts → Counts
counts_sum a b = record {
  functions = a.functions + b.functions;
  candidates = a.candidates + b.candidates;
  unstable = a.unstable + b.unstable;
  undecided = a.undecided + b.undecided;
  skipped = a.skipped + b.skipped;
}

-- each count is below 2^63, so two of them have a sum
pub record AreBelow (counts : Counts) : Type 0 where
  pub functions : counts.functions < 2 ^ 63
  pub candidates : counts.candidates < 2 ^ 63
  pub unstable : counts.unstable < 2 ^ 63
  pub undecided : counts.undecided < 2 ^ 63
  pub skipped : counts.skipped < 2 ^ 63

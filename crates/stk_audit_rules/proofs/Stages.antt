-- Where the lines of a bundle stand, and where they lead.
use Rattle.std.proofs.Common.{◌≡◌, ℕ, List, Option, Some, None, refl}
use Rattle.stk_numbers.specs.declared.conditions.UbKind.{UbKind}
use Rattle.stk_bundle.specs.declared.line.BundleLine.{BundleLine}
use Rattle.stk_bundle.specs.declared.line.BundleLine.TheVariants as line
use Rattle.stk_bundle.specs.declared.stage.Stage.{Stage}
use Rattle.stk_bundle.specs.declared.stage.Stage.TheVariants as stage
use Rattle.stk_bundle.specs.Grammar.{next_stage}

-- a line stands at one stage, and leads to another
pub record Leads (at next from to : Stage) : Type 0 where
  pub stands : at ≡ from
  pub goes : next ≡ to

some_is : {a b : Stage} → ◌≡◌ {A = Option Stage} (Some a) (Some b) → b ≡ a
some_is e = cc

none_is : {b : Stage} → ◌≡◌ {A = Option Stage} None (Some b) → ⊥
none_is e = cc

pub at_head : (at next : Stage) → next_stage at line.Head ≡ Some next → Leads at next stage.Start stage.Named
at_head stage.Start next e = record { stands = refl; goes = some_is e }
at_head at next e = absurd (none_is e)

pub at_source : (at next : Stage) (n : ℕ) → next_stage at (line.Source n) ≡ Some next → Leads at next stage.Named stage.Measured
at_source stage.Named next n e = record { stands = refl; goes = some_is e }
at_source at next n e = absurd (none_is e)

pub at_without : (at next : Stage) (ks : List UbKind) → next_stage at (line.Without ks) ≡ Some next → Leads at next stage.Measured stage.Opened
at_without stage.Measured next ks e = record { stands = refl; goes = some_is e }
at_without at next ks e = absurd (none_is e)

pub to_function : (at next : Stage) (n : ℕ) → next_stage at (line.Function n) ≡ Some next → next ≡ stage.Function
to_function stage.Opened next n e = some_is e
to_function stage.Item next n e = some_is e
to_function at next n e = absurd (none_is e)

pub to_left : (at next : Stage) (n k : ℕ) → next_stage at (line.Left n k) ≡ Some next → next ≡ stage.Item
to_left stage.Function next n k e = some_is e
to_left stage.Item next n k e = some_is e
to_left at next n k e = absurd (none_is e)

pub to_candidate : (at next : Stage) (n k : ℕ) → next_stage at (line.Unstable n k) ≡ Some next → next ≡ stage.Candidate
to_candidate stage.Function next n k e = some_is e
to_candidate stage.Item next n k e = some_is e
to_candidate at next n k e = absurd (none_is e)

pub at_hit : (at next : Stage) (start : List ℕ) → next_stage at (line.Hit start) ≡ Some next → Leads at next stage.Candidate stage.Set
at_hit stage.Candidate next start e = record { stands = refl; goes = some_is e }
at_hit at next start e = absurd (none_is e)

pub at_need : (at next : Stage) (n k : ℕ) (start : List ℕ) → next_stage at (line.Need n k start) ≡ Some next → Leads at next stage.Set stage.Set
at_need stage.Set next n k start e = record { stands = refl; goes = some_is e }
at_need at next n k start e = absurd (none_is e)

pub at_open : (at next : Stage) (n k : ℕ) → next_stage at (line.Open n k) ≡ Some next → Leads at next stage.Set stage.Set
at_open stage.Set next n k e = record { stands = refl; goes = some_is e }
at_open at next n k e = absurd (none_is e)

pub at_tried : (at next : Stage) → next_stage at line.Tried ≡ Some next → Leads at next stage.Set stage.Item
at_tried stage.Set next e = record { stands = refl; goes = some_is e }
at_tried at next e = absurd (none_is e)

pub at_clauses : (at next : Stage) (n : ℕ) → next_stage at (line.Clauses n) ≡ Some next → Leads at next stage.Set stage.Clauses
at_clauses stage.Set next n e = record { stands = refl; goes = some_is e }
at_clauses at next n e = absurd (none_is e)

pub at_steps : (at next : Stage) (n : ℕ) → next_stage at (line.Steps n) ≡ Some next → Leads at next stage.Clauses stage.Item
at_steps stage.Clauses next n e = record { stands = refl; goes = some_is e }
at_steps at next n e = absurd (none_is e)

pub to_end : (at next : Stage) → next_stage at line.End ≡ Some next → next ≡ stage.Ended
to_end stage.Opened next e = some_is e
to_end stage.Item next e = some_is e
to_end at next e = absurd (none_is e)

-- which line comes first, and which next
pub first_line : (l : BundleLine) (next : Stage) → next_stage stage.Start l ≡ Some next → l ≡ line.Head
first_line line.Head next e = refl
first_line l next e = absurd (none_is e)

pub second_line : (l : BundleLine) (next : Stage) → next_stage stage.Named l ≡ Some next → (n : ℕ) × (l ≡ line.Source n)
second_line (line.Source n) next e = (n, refl)
second_line l next e = absurd (none_is e)

pub third_line : (l : BundleLine) (next : Stage) → next_stage stage.Measured l ≡ Some next → (ks : List UbKind) × (l ≡ line.Without ks)
third_line (line.Without ks) next e = (ks, refl)
third_line l next e = absurd (none_is e)

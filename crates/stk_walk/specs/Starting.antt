-- Where a walk of a function starts at one input map (C11 6.9.1p10).
use Rattle.std.specs.Prelude.{ℕ, true, false, List, [], ℤ, pos, None, replicate}
use Rattle.stk_meaning.specs.Paths.{with_parameters}
use Rattle.stk_guarded.specs.Standing.{Standing}

-- the run has come here; the registers are 0 but for the parameters, which have these numbers; nothing is kept
abbrev pub started : ℕ → List ℕ → ℕ → (ℕ → ℤ) → Standing
started registers parameters kept numbers = record {
  alive = true;
  broken = false;
  continued = false;
  numbers = with_parameters parameters numbers (replicate registers (pos 0));
  kept = replicate kept None;
  entries = [];
}

use Rattle.std.proofs.Common.{◌≡◌, ℕ, List, [], ◌++◌, length, map}
use Rattle.stk_terms.specs.Fitting.{AreWidths}
use Rattle.stk_scripts.specs.Scripts.{widths_in, DeclaredFit}
use Rattle.stk_script_trees.specs.View.{view_declared}
use Rattle.stk_script_reader.proofs.Inputs.{Narrow}
use Rattle.stk_script_reader.proofs.declaring.widths.Given as goal

abbrev pub invariant-loop-declared : goal.invariant-loop-declared
invariant-loop-declared l = record {
  are : (bytes : List ℕ) → l.widths.items ++ widths_in (map (view_declared bytes) l.rest) ≡ widths_in (map (view_declared bytes) l.fn.list);
  fit : AreWidths l.widths.items;
  narrow : (bytes : List ℕ) → DeclaredFit [] (map (view_declared bytes) l.fn.list) → Narrow (map (view_declared bytes) l.rest);
}

abbrev pub decreases-loop-declared : goal.decreases-loop-declared
decreases-loop-declared l = length l.rest

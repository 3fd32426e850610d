use Rattle.std.proofs.Common.{◌≡◌, take}
use Rattle.stk_terms.specs.Fitting.{AreWidths}
use Rattle.stk_cuts.specs.Cuts.{sizes_of}
use Rattle.stk_cuts.proofs.goal.widths_of.Given as goal

-- the widths of the first terms
abbrev pub invariant-loop-k : goal.invariant-loop-k
invariant-loop-k l = record {
  are : l.widths.items ≡ sizes_of l.terms (take l.k l.ids);
  fit : AreWidths l.widths.items;
}

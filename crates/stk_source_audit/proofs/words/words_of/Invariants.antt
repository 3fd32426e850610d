use Rattle.std.proofs.Common.{◌≡◌, ◌++◌, length, map}
use Rattle.stk_numbers.specs.Kinds.{width_of}
use Rattle.stk_terms.specs.Fitting.{AreResidues}
use Rattle.stk_symbols.specs.Maps.{map_of}
use Rattle.stk_source_audit.proofs.words.words_of.Given as goal

abbrev pub invariant-loop-kind : goal.invariant-loop-kind
invariant-loop-kind l = record {
  fit : AreResidues (map width_of l.left) l.rest → AreResidues (map width_of l.kinds) l.residues;
  back : AreResidues (map width_of l.kinds) l.residues → AreResidues (map width_of l.left) l.rest;
  whole : l.words.items ++ map_of l.left l.rest ≡ map_of l.kinds l.residues;
}

abbrev pub decreases-loop-kind : goal.decreases-loop-kind
decreases-loop-kind l = length l.left

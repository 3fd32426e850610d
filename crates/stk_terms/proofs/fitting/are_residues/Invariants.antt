use Rattle.std.proofs.Common.{drop}
use Rattle.stk_terms.specs.Fitting.{AreResidues}
use Rattle.stk_terms.proofs.fitting.are_residues.Given as goal

-- all are where what is left is
abbrev pub invariant-loop-k : goal.invariant-loop-k
invariant-loop-k l = AreResidues (drop l.k l.inputs) (drop l.k l.residues) → AreResidues l.inputs l.residues

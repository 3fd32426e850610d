use Rattle.std.proofs.Common.{sym, true≢false}
use Rattle.stk_terms.proofs.Below.{residues_length, residue_below}
use Rattle.stk_terms.proofs.fitting.are_residues.Goals as goal

pub returns-then-inputs-residues : goal.returns-then-inputs-residues
returns-then-inputs-residues c = (λ h. absurd (true≢false (sym h)), λ r. absurd (c.if-inputs-residues.true (sym (residues_length c.args.inputs.now c.args.residues.now r))))

pub returns-then-not-is_residue : goal.returns-then-not-is_residue
returns-then-not-is_residue c = (λ h. absurd (true≢false (sym h)), λ r. c.if-not-is_residue.ensures.1 (residue_below c.args.inputs.now c.args.residues.now c.loop-k.k r))

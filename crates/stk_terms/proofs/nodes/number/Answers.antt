use Rattle.std.proofs.Common.{◌∙◌}
use Rattle.stk_terms.proofs.Evaluating as all
use Rattle.stk_terms.proofs.nodes.number.Goals as goal

pub bounds-first-place : goal.bounds-first-place
bounds-first-place c = (all.last_is c.args.inputs.now c.args.residues.now c.args.nodes.now c.requires.kept c.requires.residues c.args.place c.as_slice-first.result.now c.requires.place (c.as_slice-first.ensures.value ∙ c.in_ok-numbers.ensures)).0

pub returns : goal.returns
returns c = (all.last_is c.args.inputs.now c.args.residues.now c.args.nodes.now c.requires.kept c.requires.residues c.args.place c.as_slice-first.result.now c.requires.place (c.as_slice-first.ensures.value ∙ c.in_ok-numbers.ensures)).1

use Rattle.std.proofs.Common.{map, subst, sym, ap, ◌∙◌}
use Rattle.stk_numbers.specs.Kinds.{width_of}
use Rattle.stk_terms.specs.Fitting.{AreResidues}
use Rattle.stk_symbols.specs.Maps.{map_of}
use Rattle.stk_findings.proofs.Said.{said_start}
use Rattle.stk_findings.proofs.asking.started.Goals as goal

pub inputs_of-requires : goal.inputs_of-requires
inputs_of-requires c =
    let fit = subst (λ ws. AreResidues ws c.args.residues.now.numbers) c.requires.inputs c.requires.makes.fit in
    subst (AreResidues (map width_of c.args.goal.now.kinds.now)) (sym c.as_slice.ensures) fit

pub returns-clause-right : goal.returns-clause-right
returns-clause-right c = λ budget ty without f d set same h.
    let q = c.args.goal.now in
    said_start ty without f d set q.terms.now q.term.0 h c.args.residues.now.numbers q.kinds.now c.in_ok-inputs.inputs.numbers c.requires.makes same (c.in_ok-inputs.ensures ∙ ap (map_of q.kinds.now) c.as_slice.ensures)

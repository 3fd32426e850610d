use Rattle.std.proofs.Common.{◌≡◌, [], get_or, ◌∙◌}
use Rattle.stk_terms.specs.Keys.{terms_of, stored}
use Rattle.stk_terms.specs.Values.{none, evaluated, bits_of, number_at}
use Rattle.stk_terms.proofs.Sized.{in_range}
use Rattle.stk_terms.proofs.table.Terms.value.Goals as goal

pub returns-clause-below : goal.returns-clause-below
returns-clause-below c =
    let is : c.in_ok-number.number ≡ number_at (stored c.self.inside.inputs c.self.inside.nodes.keys) c.args.inputs.now.numbers c.args.id.0 =
    c.in_ok-number.ensures ∙ (λ j. (get_or (evaluated (bits_of (c.as_slice.ensures j) (c.as_slice-3.ensures j)) [] (terms_of (c.as_slice-2.ensures.keys j))) c.args.id.0 none).number) in
    in_range c.self.inside.inputs c.self.inside.nodes.keys c.args.self.now c.args.id.0 c.self.view_is c.self.invariant c.requires.exists c.args.inputs.now.numbers c.in_ok-number.number c.requires.residues is

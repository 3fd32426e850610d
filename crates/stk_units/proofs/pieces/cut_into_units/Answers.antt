use Rattle.std.proofs.Common.{◌∙◌, refl, arith}
use Rattle.stk_units.proofs.pieces.cut_into_units.Goals as goal

pub cut-requires : goal.cut-requires
cut-requires c = omega (arith, c.in_ok-skimmed.ensures.few, c.requires)

pub returns-clause-are : goal.returns-clause-are
returns-clause-are c =
    let skimmed = c.in_ok-skimmed.ensures in
    let pieces = c.in_ok-pieces.ensures.units (record { spans = skimmed.spans; positions = skimmed.positions }) in
    record { tokens = skimmed.tokens; cut = skimmed.cut; same_tokens = skimmed.same_tokens; same_pieces = pieces ∙ rw skimmed.same_notes refl }

pub returns-clause-few : goal.returns-clause-few
returns-clause-few c = omega (arith, c.in_ok-skimmed.ensures.few, c.requires)

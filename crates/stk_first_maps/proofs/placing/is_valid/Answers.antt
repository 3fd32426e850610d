use Rattle.std.proofs.Common.{ap, ◌∙◌}
use Rattle.stk_meaning.specs.Keys.{objects_in}
use Rattle.stk_meaning.specs.Maps.{addresses_in}
use Rattle.stk_meaning.specs.Paths.{number_under}
use Rattle.stk_function_types.specs.Nodes.{typing_in}
use Rattle.stk_first_maps.specs.Placed.{are_placed}
use Rattle.stk_first_maps.proofs.Objects.{placed_valid}
use Rattle.stk_first_maps.proofs.placing.is_valid.Goals as goal

pub returns : goal.returns
returns c =
    let p = c.args.tables.now.places in
    c.are_placed.ensures ∙ (ap are_placed (c.as_slice.ensures.value ∙ c.in_ok-objects.ensures) ∙ placed_valid p.kept (objects_in (typing_in p.types) p.keys) (addresses_in (number_under p.keys c.args.numbers.now)))

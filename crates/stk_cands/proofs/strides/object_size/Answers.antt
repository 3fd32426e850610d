use Rattle.stk_ctype.specs.Types.{type_of}
use Rattle.stk_ctype.specs.Structs.{structs_of}
use Rattle.stk_cands.proofs.Small.{size_fits}
use Rattle.stk_cands.proofs.strides.object_size.Goals as goal

pub new-requires-in-Some : goal.new-requires-in-Some
new-requires-in-Some c = size_fits (structs_of c.args.types.now.entries) (type_of c.args.ty.now) c.in-Some.size c.requires c.in-Some.ensures

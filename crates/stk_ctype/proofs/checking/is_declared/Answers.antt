use Rattle.std.proofs.Common.{◌<◌, subst, arith}
use Rattle.stk_ctype.specs.Types.{struct_type}
use Rattle.stk_ctype.specs.Structs.{structs_of}
use Rattle.stk_ctype.specs.Names.{struct_count}
use Rattle.stk_ctype.specs.Sound.{IsSound}
use Rattle.stk_ctype.proofs.SizesOfTypes.{declared_sound}
use Rattle.stk_ctype.proofs.checking.is_declared.Goals as goal

pub returns : goal.returns
returns c = λ _.
    let below : c.args.id < struct_count c.args.names.now = omega (arith, c.if-id-structs.false, c.structs.ensures) in
    let sound = subst (λ es. c.args.id < struct_count es → IsSound (structs_of es) (struct_type c.args.id)) c.names.view_is (declared_sound c.names.inside.facts c.names.inside.entries.items c.args.id c.names.invariant.0) in
    sound below

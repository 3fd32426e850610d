use Rattle.std.proofs.Common.{◌++◌, ◌∷◌, [], ap, sym, subst, List}
use Rattle.stk_ctype.specs.declared.ctype.CType.{CType}
use Rattle.stk_ctype.specs.Types.{type_of}
use Rattle.stk_ctype.specs.Sound.{IsSound}
use Rattle.stk_declarators.specs.Rows.{AreSoundTypes}
use Rattle.stk_declarators.proofs.Rows.{type_behind}
use Rattle.stk_declarators.proofs.prototypes.add_type.Goals as goal

pub returns-in-Some-clause-sound : goal.returns-in-Some-clause-sound
returns-in-Some-clause-sound c = λ structs so all. subst (λ (ts : List CType). AreSoundTypes structs ts) (sym c.in_ok-push.ensures.items) (type_behind structs c.args.all.now.types.items c.in_ok-ty.ty (subst (λ (t : CType). IsSound structs (type_of t)) (sym c.in_ok-ty.ensures) so) all)

pub returns-in-None-clause-sound : goal.returns-in-None-clause-sound
returns-in-None-clause-sound c = λ structs so all. subst (λ (ts : List CType). AreSoundTypes structs ts) (sym c.in_ok-push.ensures.items) (type_behind structs c.args.all.now.types.items c.in_ok-ty.ty (subst (λ (t : CType). IsSound structs (type_of t)) (sym c.in_ok-ty.ensures) so) all)

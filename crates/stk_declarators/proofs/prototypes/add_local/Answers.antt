use Rattle.std.proofs.Common.{sym, subst}
use Rattle.stk_ctype.specs.declared.ctype.CType.{CType}
use Rattle.stk_ctype.specs.Types.{type_of}
use Rattle.stk_ctype.specs.Sound.{IsSound}
use Rattle.stk_declarators.proofs.Rows.{local_pushed}
use Rattle.stk_declarators.proofs.prototypes.add_local.Goals as goal

pub returns-clause-sound : goal.returns-clause-sound
returns-clause-sound c = λ structs so all. local_pushed structs c.push.result c.args.locals.now c.push.new.self _ c.push.ensures.added (subst (λ (t : CType). IsSound structs (type_of t)) (sym c.in_ok-ty.ensures) so) all

use Rattle.std.proofs.Common.{◌∙◌, ap, sym}
use Rattle.stk_typing.proofs.Found.{stands_behind_first, is_behind}
use Rattle.stk_typing.proofs.locals.Locals.is_declared_behind.Goals as goal

pub returns-in-Some : goal.returns-in-Some
returns-in-Some c = ap (is_behind c.args.outer) (sym c.in-Some.is ∙ c.place.ensures) ∙ sym (stands_behind_first c.args.name.now c.args.outer c.args.self.now)

pub returns-in-None : goal.returns-in-None
returns-in-None c = ap (is_behind c.args.outer) (sym c.in-None.is ∙ c.place.ensures) ∙ sym (stands_behind_first c.args.name.now c.args.outer c.args.self.now)

use Rattle.std.proofs.Common.{sym, subst, ◌∙◌}
use Rattle.stk_ctype.specs.declared.kind.IntKind.TheVariants.{Int}
use Rattle.stk_values.specs.Walks.{EachTest}
use Rattle.stk_symbols.specs.Symbolic.{IsMade}
use Rattle.stk_symbols.proofs.Growing.{made_later as M}
use Rattle.stk_symbol_tests.proofs.goals.bits.Goals as goal

pub returns-clause-valid : goal.returns-clause-valid
returns-clause-valid c = M _ _ Int _ c.in_ok-shift.ensures.keeps (M _ _ Int _ c.in_ok-again.ensures.keeps (M _ _ Int _ c.in_ok-zero.ensures.keeps (M _ _ Int _ c.in_ok-hit.ensures.keeps (M _ _ Int _ c.in_ok-overflow.ensures.keeps (c.in_ok-valid.ensures.made)))))

pub returns-clause-steps : goal.returns-clause-steps
returns-clause-steps c = subst (EachTest (IsMade c.bit-6.new.values Int)) (sym (c.from_vec.ensures ∙ c.in_ok-vec.ensures.items)) (M _ _ Int _ c.in_ok-shift.ensures.keeps (M _ _ Int _ c.in_ok-again.ensures.keeps (M _ _ Int _ c.in_ok-zero.ensures.keeps (M _ _ Int _ c.in_ok-hit.ensures.keeps (c.in_ok-overflow.ensures.made)))), (M _ _ Int _ c.in_ok-shift.ensures.keeps (M _ _ Int _ c.in_ok-again.ensures.keeps (M _ _ Int _ c.in_ok-zero.ensures.keeps (c.in_ok-hit.ensures.made))), (M _ _ Int _ c.in_ok-shift.ensures.keeps (M _ _ Int _ c.in_ok-again.ensures.keeps (c.in_ok-zero.ensures.made)), (M _ _ Int _ c.in_ok-shift.ensures.keeps (c.in_ok-again.ensures.made), (c.in_ok-shift.ensures.made, tt)))))

use Rattle.std.proofs.Common.{sym, subst, ◌∙◌}
use Rattle.stk_ctype.specs.declared.kind.IntKind.TheVariants.{Int}
use Rattle.stk_values.specs.Walks.{EachTest}
use Rattle.stk_symbols.specs.Symbolic.{IsMade}
use Rattle.stk_symbols.proofs.Growing.{made_later as M}
use Rattle.stk_symbol_tests.proofs.goals.division.Goals as goal

pub breaks-requires-clause-left : goal.breaks-requires-clause-left
breaks-requires-clause-left c = M _ _ Int _ c.in_ok-valid.ensures.keeps (M _ _ Int _ c.in_ok-zero.ensures.keeps (c.in_ok-ten.ensures.makes))

pub breaks-requires-clause-right : goal.breaks-requires-clause-right
breaks-requires-clause-right c = M _ _ Int _ c.in_ok-valid.ensures.keeps (M _ _ Int _ c.in_ok-zero.ensures.keeps (M _ _ Int _ c.in_ok-ten.ensures.keeps (c.in_ok-number.ensures.makes)))

pub breaks-requires-2-clause-left : goal.breaks-requires-2-clause-left
breaks-requires-2-clause-left c = M _ _ Int _ c.in_ok-leaves.ensures.keeps (M _ _ Int _ c.in_ok-valid.ensures.keeps (M _ _ Int _ c.in_ok-zero.ensures.keeps (c.in_ok-ten.ensures.makes)))

pub breaks-requires-2-clause-right : goal.breaks-requires-2-clause-right
breaks-requires-2-clause-right c = M _ _ Int _ c.in_ok-leaves.ensures.keeps (M _ _ Int _ c.in_ok-valid.ensures.keeps (M _ _ Int _ c.in_ok-zero.ensures.keeps (M _ _ Int _ c.in_ok-ten.ensures.keeps (c.in_ok-number.ensures.makes))))

pub compare-requires-clause-left : goal.compare-requires-clause-left
compare-requires-clause-left c = M _ _ Int _ c.in_ok-divides.ensures.keeps (M _ _ Int _ c.in_ok-leaves.ensures.keeps (M _ _ Int _ c.in_ok-valid.ensures.keeps (M _ _ Int _ c.in_ok-zero.ensures.keeps (M _ _ Int _ c.in_ok-ten.ensures.keeps (c.in_ok-number.ensures.makes)))))

pub compare-requires-clause-right : goal.compare-requires-clause-right
compare-requires-clause-right c = M _ _ Int _ c.in_ok-divides.ensures.keeps (M _ _ Int _ c.in_ok-leaves.ensures.keeps (M _ _ Int _ c.in_ok-valid.ensures.keeps (c.in_ok-zero.ensures.makes)))

pub returns-clause-valid : goal.returns-clause-valid
returns-clause-valid c = M _ _ Int _ c.in_ok-lie.ensures.keeps (M _ _ Int _ c.in_ok-truth.ensures.keeps (M _ _ Int _ c.in_ok-divides.ensures.keeps (M _ _ Int _ c.in_ok-leaves.ensures.keeps (c.in_ok-valid.ensures.makes))))

pub returns-clause-steps : goal.returns-clause-steps
returns-clause-steps c = subst (EachTest (IsMade c.opposite.new.self Int)) (sym (c.from_vec.ensures ∙ c.in_ok-vec.ensures.items)) (M _ _ Int _ c.in_ok-lie.ensures.keeps (M _ _ Int _ c.in_ok-truth.ensures.keeps (M _ _ Int _ c.in_ok-divides.ensures.keeps (c.in_ok-leaves.ensures.makes))), (M _ _ Int _ c.in_ok-lie.ensures.keeps (M _ _ Int _ c.in_ok-truth.ensures.keeps (c.in_ok-divides.ensures.makes)), (c.in_ok-lie.ensures.makes, (M _ _ Int _ c.in_ok-lie.ensures.keeps (c.in_ok-truth.ensures.makes), (M _ _ Int _ c.in_ok-lie.ensures.keeps (c.in_ok-truth.ensures.makes), tt)))))

use Rattle.std.proofs.Common.{◌+◌, ◌≤◌}
use Rattle.stk_ctype.specs.declared.owned_signature.OwnedSignature.TheDeep.{deep-CType}
use Rattle.stk_ctype.specs.Types.{type_of}
use Rattle.stk_ctype.specs.Turns.{turns, turns_of_types, turns_outside}
use Rattle.stk_ctype.proofs.ctype.+ctype_drop.Given as goal

abbrev pub invariant-CType::drop-loop-self : goal.invariant-CType::drop-loop-self
invariant-CType::drop-loop-self l = deep-CType l.self ≤ deep-CType l.fn.self

abbrev pub decreases-drop_row-loop-inner : goal.decreases-drop_row-loop-inner
decreases-drop_row-loop-inner l = turns (type_of l.at) + turns_of_types l.row + turns_outside (type_of l.outer)

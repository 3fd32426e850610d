use Rattle.std.proofs.Common.{◌≡◌, ◌+◌, ◌^◌, get_or}
use Rattle.stk_gates.specs.Tables.{gate_count}
use Rattle.stk_terms.specs.Parts.{is_part}
use Rattle.stk_terms.specs.Cost.{weight}
use Rattle.stk_blast.proofs.asked.has_room.Given as goal

-- the room that the parts below the next one leave
abbrev pub invariant-loop-i : goal.invariant-loop-i
invariant-loop-i l = gate_count l.gates + (weight l.terms (is_part l.terms l.fn.id.0) (get_or l.places l.i (l.fn.id.0 + 1)) + l.left) ≡ 2 ^ 29

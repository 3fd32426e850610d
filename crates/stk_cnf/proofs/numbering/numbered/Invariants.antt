use Rattle.std.proofs.Common.{◌≡◌, ◌+◌, ◌<◌, ◌≤◌, ℕ, length, slice_index}
use Rattle.std.specs.Prelude.{vec_capacity}
use Rattle.stk_gates.specs.Tables.{gate_count}
use Rattle.stk_cnf.specs.Naming.{IsNumberedTo}
use Rattle.stk_cnf.proofs.numbering.numbered.Given as goal

abbrev pub invariant-loop-input : goal.invariant-loop-input
invariant-loop-input l = record {
  long : length l.names.items ≡ 1 + l.input;
  each : (k : ℕ) → k < l.input → slice_index l.names.items (1 + k) ≡ k;
  room : gate_count l.gates ≤ vec_capacity l.names;
}

abbrev pub invariant-loop-gate : goal.invariant-loop-gate
invariant-loop-gate l = record {
  numbered : IsNumberedTo l.gates l.marks l.names.items l.ands.items l.vars l.gate;
  names_room : gate_count l.gates ≤ vec_capacity l.names;
  ands_room : gate_count l.gates ≤ vec_capacity l.ands;
}

use Rattle.std.proofs.Common.{◌≡◌, ◌+◌, ◌∷◌, false, length, drop}
use Rattle.stk_gates.specs.Laws.{gate_values}
use Rattle.stk_gates.proofs.gates.Gates.eval.Given as goal

abbrev pub invariant-loop-pair : goal.invariant-loop-pair
invariant-loop-pair l = record {
  many : length l.values.items ≡ 1 + l.self.inputs + l.pair-index;
  rest : gate_values l.values.items (drop l.pair-index l.self.pairs) ≡ gate_values (false ∷ l.inputs.bits) l.self.pairs;
}

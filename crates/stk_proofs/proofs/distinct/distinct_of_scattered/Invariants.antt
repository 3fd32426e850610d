use Rattle.std.proofs.Common.{◌≡◌, drop, map}
use Rattle.stk_clauses.specs.declared.literal.Lit.{Lit}
use Rattle.stk_proofs.specs.Distinct.{distinct_behind, distinct}
use Rattle.stk_proofs.proofs.distinct.distinct_of_scattered.Given as goal

abbrev pub invariant-loop-literal : goal.invariant-loop-literal
invariant-loop-literal l = record {
  found : distinct_behind l.found.items (drop l.literal-index l.literals) ≡ distinct l.literals;
  seen : l.seen.keys ≡ map (λ (m : Lit). m.0) l.found.items;
}

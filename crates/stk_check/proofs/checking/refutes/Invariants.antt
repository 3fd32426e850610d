use Rattle.std.proofs.Common.{ℕ, take, ◌≡◌, ◌<◌, ◌≤◌, ◌*◌, ◌++◌, length, slice_index_or}
use Rattle.std.specs.List.{All}
use Rattle.stk_clauses.specs.Literals.{AreBelow}
use Rattle.stk_clauses.specs.declared.derivation.Derived.{Derived}
use Rattle.stk_clauses.specs.Derivations.{clauses_of_steps, IsStep}
use Rattle.stk_check.proofs.checking.refutes.Given as goal

abbrev pub invariant-loop-i : goal.invariant-loop-i
invariant-loop-i l = record {
  steps : (k : ℕ) (d : Derived) → k < l.i → IsStep l.vars l.given (take k l.steps) (slice_index_or l.steps k d);
  below : All (AreBelow l.vars) (l.given ++ clauses_of_steps (take l.i l.steps));
  fresh : All (λ x. x ≤ l.i) l.marks;
  sized : length l.marks ≡ 2 * l.vars;
}

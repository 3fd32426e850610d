use Rattle.std.proofs.Common.{◌≡◌, drop}
use Rattle.stk_meaning.specs.Changes.{kept_spot}
use Rattle.stk_function_env.specs.Changed.{changed_by_any}
use Rattle.stk_function_env.proofs.changes.is_any_of_kept.Given as goal

abbrev pub invariant-loop-change : goal.invariant-loop-change
invariant-loop-change l = changed_by_any (drop l.change-index l.list) (kept_spot l.position) ≡ changed_by_any l.list (kept_spot l.position)

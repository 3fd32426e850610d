use Rattle.std.proofs.Common.{ℕ, ◌≡◌, ◌&&◌, nat_lt}
use Rattle.std.specs.Option.{is_some}
use Rattle.stk_meaning.specs.Changes.{kept_spot}
use Rattle.stk_function_env.specs.Changed.{changed_by_any}
use Rattle.stk_path_runs.specs.Places.{slot_in}
use Rattle.stk_path_runs.proofs.loop_rows.kept_slots.Given as goal

abbrev pub invariant-loop-position : goal.invariant-loop-position
invariant-loop-position l = (q : ℕ) → is_some (slot_in l.kept q) ≡ (nat_lt q l.position && changed_by_any l.changes (kept_spot q))

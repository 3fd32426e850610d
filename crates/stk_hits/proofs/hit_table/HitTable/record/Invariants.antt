use Rattle.std.proofs.Common.{◌≡◌, ◌≤◌, List, [], length, take, Option}
use Rattle.stk_meaning.specs.declared.entry.Entry.{Entry}
use Rattle.stk_hits.specs.ConditionIds.{condition_ids_of}
use Rattle.stk_hits.specs.Tables.{Describes, IsNumberOf}
use Rattle.stk_hits.proofs.hit_table.HitTable.record.Given as goal

abbrev pub invariant-loop-entry : goal.invariant-loop-entry
invariant-loop-entry l = (l.set ≤ length l.self.steps) × ((runs : List (Option (List Entry))) → Describes runs [] l.fn.self → l.number ≡ length runs → Describes runs (take l.entry-index l.trace) l.self × IsNumberOf l.self.steps l.set (condition_ids_of (take l.entry-index l.trace)))

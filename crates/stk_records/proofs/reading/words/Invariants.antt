use Rattle.std.proofs.Common.{length, map}
use Rattle.std.specs.String.{string_bytes}
use Rattle.stk_records.specs.declared.options.Options.{Options}
use Rattle.stk_records.specs.Words.{AreItems, AreLegal}
use Rattle.stk_records.proofs.reading.words.Given as goal

abbrev pub invariant-items : goal.invariant-items
invariant-items l = ((o : Options) → AreLegal (map string_bytes l.words) o → AreItems l.seen (map string_bytes l.rest) o) × ((o : Options) → AreItems l.seen (map string_bytes l.rest) o → AreLegal (map string_bytes l.words) o)

abbrev pub decreases-items : goal.decreases-items
decreases-items l = length l.rest

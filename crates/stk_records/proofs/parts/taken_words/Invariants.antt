use Rattle.std.proofs.Common.{◌≡◌, ◌++◌, map, drop}
use Rattle.serde_json.specs.View.{view}
use Rattle.stk_records.specs.Json.{taken_words}
use Rattle.stk_records.proofs.parts.taken_words.Given as goal

abbrev pub invariant-loop-kind : goal.invariant-loop-kind
invariant-loop-kind l = map view l.list.items ++ taken_words l.without (drop l.kind-index l.kinds) ≡ taken_words l.without l.kinds

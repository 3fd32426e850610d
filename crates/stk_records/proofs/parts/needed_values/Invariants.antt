use Rattle.std.proofs.Common.{◌≡◌, ◌++◌, map, drop}
use Rattle.serde_json.specs.View.{view}
use Rattle.stk_records.specs.Json.{needed_data}
use Rattle.stk_records.proofs.parts.needed_values.Given as goal

abbrev pub invariant-loop-needed : goal.invariant-loop-needed
invariant-loop-needed l = map view l.list.items ++ map needed_data (drop l.needed-index l.needs) ≡ map needed_data l.needs

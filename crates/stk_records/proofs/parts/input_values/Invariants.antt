use Rattle.std.proofs.Common.{◌≡◌, ◌++◌, map, drop}
use Rattle.serde_json.specs.View.{view}
use Rattle.stk_records.specs.Json.{input_data}
use Rattle.stk_records.proofs.parts.input_values.Given as goal

abbrev pub invariant-loop-input : goal.invariant-loop-input
invariant-loop-input l = map view l.list.items ++ map input_data (drop l.input-index l.inputs) ≡ map input_data l.inputs

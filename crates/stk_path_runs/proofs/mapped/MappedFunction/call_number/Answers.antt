use Rattle.stk_meaning.specs.Keys.{call_key}
use Rattle.stk_path_runs.proofs.Numbers.{by_place}
use Rattle.stk_path_runs.proofs.mapped.MappedFunction.call_number.Goals as goal

pub returns : goal.returns
returns c = by_place c.args.self.now.tables.now.places.keys (call_key c.args.node) c.call.result c.args.self.now.numbers.now c.number_in.result (c.call.ensures c.args.self.now.tables.now.places.keys c.index.ensures) c.number_in.ensures

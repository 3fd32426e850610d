use Rattle.std.proofs.Common.{◌≡◌, drop, map}
use Rattle.stk_tree.specs.View.{view_parameter, parameters}
use Rattle.stk_function_types.specs.Nodes.{typing_in}
use Rattle.stk_meaning.specs.Keys.{parameter_key}
use Rattle.stk_meaning.specs.Paths.{number_under}
use Rattle.stk_path_runs.specs.Starting.{parameters_set}
use Rattle.stk_path_runs.proofs.starting.set_parameters.Given as goal

abbrev pub invariant-loop-p : goal.invariant-loop-p
invariant-loop-p l =
    parameters_set (typing_in l.out.tables.now.places.types) (λ k. number_under l.out.tables.now.places.keys l.out.numbers.now (parameter_key k)) (parameters (map view_parameter (drop l.p-index l.list))) l.registers.items
    ≡ parameters_set (typing_in l.out.tables.now.places.types) (λ k. number_under l.out.tables.now.places.keys l.out.numbers.now (parameter_key k)) (parameters (map view_parameter l.list)) l.initial.registers.items

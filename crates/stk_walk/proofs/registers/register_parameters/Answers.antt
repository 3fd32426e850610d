use Rattle.std.proofs.Common.{◌≡◌, ◌∙◌, map}
use Rattle.std.proofs.lemmas.Result.{IfOk-weaker}
use Rattle.stk_tree.specs.View.{view_function, view_parameter, parameters}
use Rattle.stk_meaning.specs.Typings.{declarator_node}
use Rattle.stk_meaning.specs.Keys.{register_parameters}
use Rattle.stk_function_types.specs.Nodes.{typing_in}
use Rattle.stk_function_env.specs.Listed.{parameters_registers}
use Rattle.stk_walk.proofs.Rows.{registers_are}
use Rattle.stk_walk.proofs.registers.register_parameters.Goals as goal

pub returns : goal.returns
returns c =
    let T = typing_in c.args.types.now in
    let tree = view_function c.args.f.now in
    let ps = parameters (map view_parameter c.parameters.result.now) in
    IfOk-weaker c.registers_among.result (λ out. out.items ≡ parameters_registers T ps) (λ out. out.items ≡ map declarator_node (register_parameters T tree)) (λ out is. is ∙ registers_are T tree ps c.parameters.ensures) c.registers_among.ensures

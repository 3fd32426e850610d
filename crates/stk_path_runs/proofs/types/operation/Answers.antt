use Rattle.std.proofs.Common.{◌≡◌, ap, sym, ◌∙◌}
use Rattle.stk_ctype.specs.Types.{TypeTree, type_of}
use Rattle.stk_meaning.specs.Typings.{stride_in}
use Rattle.stk_meaning.specs.Operations.{operation_of}
use Rattle.stk_operators.specs.Shown.{operator_shown}
use Rattle.stk_function_types.specs.Nodes.{typing_in}
use Rattle.stk_path_runs.proofs.types.operation.Goals as goal

pub returns : goal.returns
returns c =
    let T = typing_in c.args.types.now in
    let left : stride_in T (type_of c.type_at.result.now) ≡ c.stride_at.result = ap (stride_in T) c.type_at.ensures.is ∙ sym c.stride_at.ensures in
    let right : stride_in T (type_of c.type_at-2.result.now) ≡ c.stride_at-2.result = ap (stride_in T) c.type_at-2.ensures.is ∙ sym c.stride_at-2.ensures in
    c.operation_of.ensures T left right
    ∙ ap (λ (u : TypeTree). operation_of T (operator_shown c.args.op) u (type_of c.type_at-2.result.now)) c.type_at.ensures.is
    ∙ ap (λ (u : TypeTree). operation_of T (operator_shown c.args.op) (T.type_at c.args.left) u) c.type_at-2.ensures.is

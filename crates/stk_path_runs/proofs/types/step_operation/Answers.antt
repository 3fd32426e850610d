use Rattle.std.proofs.Common.{◌≡◌, ap, sym, ◌∙◌}
use Rattle.stk_ctype.specs.declared.kind.IntKind.TheVariants as kind
use Rattle.stk_ctype.specs.declared.ctype.CType.TheVariants as ctype
use Rattle.stk_ctype.specs.Types.{TypeTree, type_of, integer_type}
use Rattle.stk_meaning.specs.Typings.{stride_in}
use Rattle.stk_meaning.specs.Operations.{Operator, operation_of, step_operator}
use Rattle.stk_function_types.specs.Nodes.{typing_in}
use Rattle.stk_path_runs.proofs.types.step_operation.Goals as goal

pub returns : goal.returns
returns c =
    let T = typing_in c.args.types.now in
    let t = T.type_at c.args.node in
    let left : stride_in T (type_of c.type_at-ty.result.now) ≡ c.stride_at.result = ap (stride_in T) c.type_at-ty.ensures.is ∙ sym c.stride_at.ensures in
    let right : stride_in T (type_of (ctype.Int kind.Int)) ≡ c.new.result = sym c.new.ensures in
    c.operation_of.ensures T left right
    ∙ ap (λ (op : Operator). operation_of T op (type_of c.type_at-ty.result.now) (type_of (ctype.Int kind.Int))) c.step_operator.ensures
    ∙ ap (λ (u : TypeTree). operation_of T (step_operator c.args.op) u (type_of (ctype.Int kind.Int))) c.type_at-ty.ensures.is

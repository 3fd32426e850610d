use Rattle.std.proofs.Common.{ap, refl, ◌∙◌}
use Rattle.stk_ctype.specs.declared.kind.IntKind.TheVariants as kind
use Rattle.stk_ctype.specs.Types.{type_of, integer_type}
use Rattle.stk_ctype.specs.declared.ctype.CType.TheVariants as ctype
use Rattle.stk_function_types.specs.Nodes.{typing_in}
use Rattle.stk_operators.specs.Shown.{operation_shown, operator_shown}
use Rattle.stk_meaning.specs.Operations.{operation_of}
use Rattle.stk_cands.proofs.Operated.{operated}
use Rattle.stk_cands.proofs.condition_forms.step_operation_at.Goals as goal

pub returns : goal.returns
returns c =
    operated (typing_in c.args.types.now) (operator_shown c.step_operator.result) (type_of c.type_at-first.result.now) (type_of (ctype.Int kind.Int)) _ _ c.stride_of-first_size.result c.stride_of-second_size.result (operation_shown c.operation_of.result) c.operation_of.ensures c.stride_of-first_size.ensures c.stride_of-second_size.ensures c.type_at-first.ensures.is refl ∙ ap (λ o. operation_of (typing_in c.args.types.now) o ((typing_in c.args.types.now).type_at c.args.node) (integer_type kind.Int)) c.step_operator.ensures

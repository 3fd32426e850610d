use Rattle.stk_ctype.specs.Types.{type_of}
use Rattle.stk_function_types.specs.Nodes.{typing_in}
use Rattle.stk_operators.specs.Shown.{operation_shown, operator_shown}
use Rattle.stk_cands.proofs.Operated.{operated}
use Rattle.stk_cands.proofs.condition_forms.operation_at.Goals as goal

pub returns : goal.returns
returns c =
    operated (typing_in c.args.types.now) (operator_shown c.args.op) (type_of c.type_at-first.result.now) (type_of c.type_at-second.result.now) _ _ c.stride_of-first_size.result c.stride_of-second_size.result (operation_shown c.operation_of.result) c.operation_of.ensures c.stride_of-first_size.ensures c.stride_of-second_size.ensures c.type_at-first.ensures.is c.type_at-second.ensures.is

use Rattle.stk_ctype.specs.Types.{type_of}
use Rattle.stk_function_types.specs.Nodes.{typing_in}
use Rattle.stk_operators.specs.Checked.{tests_of}
use Rattle.stk_cands.proofs.Operated.{indexed}
use Rattle.stk_cands.proofs.condition_forms.index_checks_at.Goals as goal

pub returns : goal.returns
returns c =
    indexed (typing_in c.args.types.now) c.args.accessed (type_of c.type_at-ty.result.now) _ c.stride_of-size.result (tests_of c.index_node_tests.result) c.index_node_tests.ensures c.stride_of-size.ensures c.type_at-ty.ensures.is

use Rattle.std.proofs.Common.{arith, ◌∙◌, ap}
use Rattle.stk_ctype.specs.Names.{struct_count}
use Rattle.stk_ctype.proofs.Noting.{kept_count, kept_few}
use Rattle.stk_ctype.proofs.names.Names.structs.Goals as goal

pub overflow_cast-result : goal.overflow_cast-result
overflow_cast-result c = omega (arith, c.len.ensures, kept_few _ _ c.self.invariant.0, c.self.invariant.1)

pub returns : goal.returns
returns c = c.len.ensures ∙ kept_count _ _ c.self.invariant.0 ∙ ap struct_count c.self.view_is

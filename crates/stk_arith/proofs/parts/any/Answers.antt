use Rattle.std.proofs.Common.{◌∙◌, arith}
use Rattle.stk_gates.specs.Edges.{edge_value}
use Rattle.stk_gates.proofs.Growth.{obeys_before, extends_twice}
use Rattle.stk_arith.proofs.Numbers.{any_step}
use Rattle.stk_arith.proofs.parts.any.Goals as goal

pub loop-i-preserved : goal.loop-i-preserved
loop-i-preserved c =
    let old = c.loop-i.invariant in
    let grown = c.or.ensures.extends in
    record {
      edge = c.in_ok-some.ensures.edge;
      value = λ gates o. c.in_ok-some.ensures.value gates o ∙ any_step gates c.args.row.now c.loop-i.i _ (edge_value gates c.loop-i.some) (omega arith) (old.value gates (obeys_before _ _ gates grown o));
      extends = extends_twice _ _ _ old.extends grown;
      adds = let x = old.adds in let y = c.or.ensures.adds in omega arith;
    }

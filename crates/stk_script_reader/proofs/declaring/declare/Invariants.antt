use Rattle.std.proofs.Common.{length, map}
use Rattle.stk_script_trees.specs.View.{view_declared}
use Rattle.stk_script_reader.specs.After.{Declaring}
use Rattle.stk_script_reader.proofs.declaring.declare.Given as goal

abbrev pub invariant-loop-declared : goal.invariant-loop-declared
invariant-loop-declared l = record {
  declaring : Declaring l.names l.terms (map (view_declared l.bytes) l.fn.list) (map (view_declared l.bytes) l.rest) l.key;
}

abbrev pub decreases-loop-declared : goal.decreases-loop-declared
decreases-loop-declared l = length l.rest

use Rattle.std.proofs.Common.{length, map, codes}
use Rattle.stk_scripts.specs.Shown.{tokens_shown}
use Rattle.stk_script_trees.specs.Commands.{declarations, read_declared}
use Rattle.stk_script_trees.specs.View.{view_declared}
use Rattle.stk_script_trees.proofs.Rows.{Reading}
use Rattle.stk_script_trees.proofs.commands.declarations.Given as goal

abbrev pub invariant-loop-behind : goal.invariant-loop-behind
invariant-loop-behind l = record {
  reading : Reading (codes "declare-fun") read_declared (map (view_declared l.bytes) l.list.items) (tokens_shown l.bytes l.rest) (declarations (tokens_shown l.bytes l.fn.tokens));
}

abbrev pub decreases-loop-behind : goal.decreases-loop-behind
decreases-loop-behind l = length (tokens_shown l.bytes l.rest)

use Rattle.std.proofs.Common.{length, map, codes}
use Rattle.stk_scripts.specs.Shown.{tokens_shown}
use Rattle.stk_script_trees.specs.Commands.{definitions, read_defined}
use Rattle.stk_script_trees.specs.View.{view_defined}
use Rattle.stk_script_trees.proofs.Rows.{Reading}
use Rattle.stk_script_trees.proofs.commands.definitions.Given as goal

abbrev pub invariant-loop-behind : goal.invariant-loop-behind
invariant-loop-behind l = record {
  reading : Reading (codes "define-fun") (read_defined l.most) (map (view_defined l.bytes) l.list.items) (tokens_shown l.bytes l.rest) (definitions l.most (tokens_shown l.bytes l.fn.tokens));
}

abbrev pub decreases-loop-behind : goal.decreases-loop-behind
decreases-loop-behind l = length (tokens_shown l.bytes l.rest)

use Rattle.std.proofs.Common.{◌≡◌, ◌++◌, drop}
use Rattle.stk_hits.specs.PathTables.{wrapped}
use Rattle.stk_hits.proofs.path_table.words_of.Given as goal

abbrev pub invariant-loop-kind : goal.invariant-loop-kind
invariant-loop-kind l = l.words.items ++ wrapped (drop l.kind-index l.kinds) l.rest ≡ wrapped l.kinds l.numbers

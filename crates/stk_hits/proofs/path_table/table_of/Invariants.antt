use Rattle.stk_tree.specs.View.{view_function}
use Rattle.stk_function_types.specs.Nodes.{typing_in}
use Rattle.stk_hits.specs.PathTables.{IsTableOf}
use Rattle.stk_hits.proofs.path_table.table_of.Given as goal

abbrev pub invariant-loop-number : goal.invariant-loop-number
invariant-loop-number l = IsTableOf (typing_in l.tables.places.types) l.tables.places.without (view_function l.f) l.number l.table

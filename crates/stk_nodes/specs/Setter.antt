-- The record that a layout sets at a node.
use Rattle.std.specs.Prelude.{ℕ, cond}
use Rattle.stk_tree.specs.declared.node.Node.{Node}
use Rattle.stk_tree.specs.Layout.{covered}
use Rattle.stk_nodes.specs.declared.cursor.Records.{Records}

-- the record of the node n, which covers so many tokens from the token t on; without numbers, each node has the number
-- 0
abbrev pub setter : Records → ℕ → ℕ → ℕ → Node
setter records n t count = record { number = cond records.numbered n 0; span = covered records.spans.now t count }

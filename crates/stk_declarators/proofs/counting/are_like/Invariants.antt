use Rattle.std.proofs.Common.{◌≡◌, drop, map}
use Rattle.stk_tree.specs.View.{view_item, items}
use Rattle.stk_declarators.specs.Counting.{are_like}
use Rattle.stk_declarators.proofs.counting.are_like.Given as goal

abbrev pub invariant-loop-i : goal.invariant-loop-i
invariant-loop-i l = are_like l.braced (items (map view_item (drop l.i-index l.list))) ≡ are_like l.braced (items (map view_item l.list))

use Rattle.std.proofs.Common.{◌≡◌, ◌&&◌, drop, map}
use Rattle.stk_ctype.specs.Types.{type_of, row_of}
use Rattle.stk_compatible.specs.Same.{same_row}
use Rattle.stk_compatible.specs.Pairs.{are_same, pairs_of}
use Rattle.stk_compatible.proofs.comparing.add_rows.Given as goal

abbrev pub invariant-loop-first : goal.invariant-loop-first
invariant-loop-first l =
    (same_row (row_of (map type_of (drop l.first-index l.left))) (row_of (map type_of l.others)) && are_same (pairs_of l.waiting.items))
    ≡ (same_row (row_of (map type_of l.left)) (row_of (map type_of l.right)) && are_same (pairs_of l.initial.waiting.items))

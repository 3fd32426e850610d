use Rattle.std.proofs.Common.{◌≡◌, [], map, take}
use Rattle.stk_terms.specs.Keys.{terms_of}
use Rattle.stk_terms.specs.Values.{evaluated, bits_of}
use Rattle.stk_terms.proofs.nodes.numbers.Given as goal

-- the numbers of the nodes so far
abbrev pub invariant-loop-i : goal.invariant-loop-i
invariant-loop-i l = l.numbers.items ≡ take l.i (map (λ b. b.number) (evaluated (bits_of l.inputs l.residues) [] (terms_of l.nodes)))

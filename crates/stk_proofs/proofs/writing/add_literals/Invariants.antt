use Rattle.std.proofs.Common.{◌≡◌, ◌++◌, drop}
use Rattle.stk_proofs.specs.Dimacs.{literals_text}
use Rattle.stk_proofs.proofs.writing.add_literals.Given as goal

abbrev pub invariant-loop-literal : goal.invariant-loop-literal
invariant-loop-literal l = l.text.items ++ literals_text (drop l.literal-index l.literals) ≡ l.initial.text.items ++ literals_text l.literals

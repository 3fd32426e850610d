use Rattle.std.proofs.Common.{◌≡◌, ◌++◌, map}
use Rattle.stk_ctype.specs.Structs.{Structs}
use Rattle.stk_type_rules.specs.Facts.{AreSoundFacts, fact_of}
use Rattle.stk_function_types.specs.Locals.{plain_nodes}
use Rattle.stk_statements.proofs.initials.plain_nodes.Given as goal

abbrev pub invariant-loop-turn : goal.invariant-loop-turn
invariant-loop-turn l = record {
  is : map fact_of l.facts.items ≡ map fact_of l.initial.facts.items ++ plain_nodes l._turn;
  sound : (structs : Structs) → AreSoundFacts structs (map fact_of l.initial.facts.items) → AreSoundFacts structs (map fact_of l.facts.items);
}

use Rattle.std.proofs.Common.{drop, map, List, Result}
use Rattle.stk_ctype.specs.Structs.{structs_of}
use Rattle.stk_tree.specs.View.{items, view_item}
use Rattle.stk_type_rules.specs.declared.untyped.Untyped.{Untyped}
use Rattle.stk_type_rules.specs.Facts.{AreSoundFacts, Fact, fact_of}
use Rattle.stk_type_rules.specs.Outcome.{Gives}
use Rattle.stk_typing.specs.Scope.{scope_of}
use Rattle.stk_typing.specs.declared.initialiser_leaves.Leaves.{Leaves}
use Rattle.stk_typing.specs.InitialiserTyping.{items_typed}
use Rattle.stk_typing.proofs.InitialiserTurns.{AreLeaves, Merges}
use Rattle.stk_typing.proofs.initialisers.+initialiser.Given as goal

-- what completes the rest completes the whole
abbrev pub invariant-items-loop-i : goal.invariant-items-loop-i
invariant-items-loop-i l = record {
  sound : AreSoundFacts (structs_of l.s.names.now) (map fact_of l.facts.items);
  rest : (result : Result Leaves Untyped) (new : List Fact) →
      Gives (Merges l.all) (items_typed (scope_of l.s) (items (map view_item (drop l.i-index l.list)))) result (map fact_of l.facts.items) new →
      Gives AreLeaves (items_typed (scope_of l.s) (items (map view_item l.list))) result (map fact_of l.initial.facts.items) new;
}

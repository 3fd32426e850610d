use Rattle.std.proofs.Common.{drop, map, List, Result}
use Rattle.stk_ctype.specs.Structs.{structs_of}
use Rattle.stk_tree.specs.View.{designators, view_designator}
use Rattle.stk_type_rules.specs.declared.untyped.Untyped.{Untyped}
use Rattle.stk_type_rules.specs.Facts.{AreSoundFacts, Fact, fact_of}
use Rattle.stk_type_rules.specs.Outcome.{Gives}
use Rattle.stk_typing.specs.Scope.{scope_of}
use Rattle.stk_typing.specs.InitialiserTyping.{designators_typed}
use Rattle.stk_typing.proofs.InitialiserTurns.{Nothing}
use Rattle.stk_typing.proofs.initialisers.designators.Given as goal

-- what completes the rest completes the whole
abbrev pub invariant-loop-d : goal.invariant-loop-d
invariant-loop-d l = record {
  sound : AreSoundFacts (structs_of l.s.names.now) (map fact_of l.facts.items);
  rest : (result : Result (Unit {0}) Untyped) (new : List Fact) →
      Gives Nothing (designators_typed (scope_of l.s) (designators (map view_designator (drop l.d-index l.list)))) result (map fact_of l.facts.items) new →
      Gives Nothing (designators_typed (scope_of l.s) (designators (map view_designator l.list))) result (map fact_of l.initial.facts.items) new;
}

use Rattle.std.proofs.Common.{◌≡◌, drop, map, List, [], Result, Vec, Global}
use Rattle.stk_ctype.specs.Structs.{structs_of}
use Rattle.stk_ctype.specs.Types.{row_of, type_of}
use Rattle.stk_tree.specs.View.{expressions, dimensions, view_expression, view_dimension}
use Rattle.stk_type_rules.specs.declared.untyped.Untyped.{Untyped}
use Rattle.stk_type_rules.specs.Facts.{AreSoundFacts, Fact, fact_of}
use Rattle.stk_type_rules.specs.Outcome.{Gives}
use Rattle.stk_typing.specs.declared.arrays.Size.{Size}
use Rattle.stk_typing.specs.Scope.{scope_of}
use Rattle.stk_typing.specs.declared.calls.Arguments.{Arguments}
use Rattle.stk_typing.specs.Typing.{arguments_typed, dimensions_typed}
use Rattle.stk_typing.specs.Calls.{AreArguments}
use Rattle.stk_typing.proofs.Turns.{AreBehind, AreSizes}
use Rattle.stk_typing.proofs.expressions.+expression.Given as goal

-- what completes the rest completes the whole
abbrev pub invariant-arguments-loop-e : goal.invariant-arguments-loop-e
invariant-arguments-loop-e l = record {
  count : l.all.count ≡ l.e-index;
  sound : AreSoundFacts (structs_of l.s.names.now) (map fact_of l.facts.items);
  rest : (result : Result Arguments Untyped) (new : List Fact) →
      Gives (AreBehind (row_of (map type_of l.left)) l.all) (arguments_typed (scope_of l.s) (expressions (map view_expression (drop l.e-index l.list)))) result (map fact_of l.facts.items) new →
      Gives (AreArguments (row_of (map type_of l.params))) (arguments_typed (scope_of l.s) (expressions (map view_expression l.list))) result (map fact_of l.initial.facts.items) new;
}

abbrev pub invariant-dimensions-loop-d : goal.invariant-dimensions-loop-d
invariant-dimensions-loop-d l = record {
  sound : AreSoundFacts (structs_of l.s.names.now) (map fact_of l.facts.items);
  rest : (result : Result (Vec Size Global) Untyped) (new : List Fact) →
      Gives (AreSizes l.sizes.items) (dimensions_typed (scope_of l.s) (dimensions (map view_dimension (drop l.d-index l.list)))) result (map fact_of l.facts.items) new →
      Gives (AreSizes []) (dimensions_typed (scope_of l.s) (dimensions (map view_dimension l.list))) result (map fact_of l.initial.facts.items) new;
}

use Rattle.std.proofs.Common.{drop, map, List, Result}
use Rattle.stk_ctype.specs.Structs.{structs_of}
use Rattle.stk_tree.specs.View.{view_parameter, parameters}
use Rattle.stk_type_rules.specs.declared.untyped.Untyped.{Untyped}
use Rattle.stk_type_rules.specs.Facts.{AreSoundFacts, Fact, fact_of}
use Rattle.stk_type_rules.specs.Outcome.{Gives}
use Rattle.stk_typing.specs.Locals.{AreSoundLocals, Local, local_of}
use Rattle.stk_declarators.specs.declared.prototypes.Params.{Params}
use Rattle.stk_declarators.specs.Parameters.{parameters_typed}
use Rattle.stk_declarators.specs.Rows.{AreParams, AreSoundTypes, file_scope}
use Rattle.stk_declarators.proofs.Rows.{AreBehind}
use Rattle.stk_declarators.proofs.prototypes.parameters.Given as goal

-- what completes the rest completes the whole
abbrev pub invariant-loop-p : goal.invariant-loop-p
invariant-loop-p l = record {
  locals : AreSoundLocals (structs_of l.f.names.now) (map local_of l.locals);
  sound : AreSoundFacts (structs_of l.f.names.now) (map fact_of l.facts.items);
  types : AreSoundTypes (structs_of l.f.names.now) l.all.types.items;
  rest : (result : Result Params Untyped) (new : List Fact) (now : List Local) →
      Gives (AreBehind l.all (map local_of l.locals) now) (parameters_typed (file_scope l.f l.locals) l.defines (parameters (map view_parameter (drop l.p-index l.list)))) result (map fact_of l.facts.items) new →
      Gives (AreParams (map local_of l.initial.locals) now) (parameters_typed (file_scope l.f l.initial.locals) l.defines (parameters (map view_parameter l.list))) result (map fact_of l.initial.facts.items) new;
}

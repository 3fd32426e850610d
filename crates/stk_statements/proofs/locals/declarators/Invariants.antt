use Rattle.std.proofs.Common.{drop, map, List, Result}
use Rattle.stk_ctype.specs.Structs.{structs_of}
use Rattle.stk_ctype.specs.Types.{type_of}
use Rattle.stk_tree.specs.View.{view_declarator, declarators}
use Rattle.stk_type_rules.specs.declared.untyped.Untyped.{Untyped}
use Rattle.stk_type_rules.specs.Facts.{AreSoundFacts, Fact, fact_of}
use Rattle.stk_type_rules.specs.Outcome.{Gives}
use Rattle.stk_typing.specs.Locals.{AreSoundLocals, Local, local_of}
use Rattle.stk_statements.specs.Places.{Begins, body_in}
use Rattle.stk_function_types.specs.Locals.{locals_declared}
use Rattle.stk_statements.specs.Rows.{AreLocals}
use Rattle.stk_statements.proofs.locals.declarators.Given as goal

-- what completes the rest completes the whole
abbrev pub invariant-loop-d : goal.invariant-loop-d
invariant-loop-d l = record {
  locals : AreSoundLocals (structs_of l.p.file.names.now) (map local_of l.locals);
  sound : AreSoundFacts (structs_of l.p.file.names.now) (map fact_of l.facts.items);
  begins : Begins l.initial.locals l.locals;
  rest : (result : Result (Unit {0}) Untyped) (new : List Fact) (now : List Local) →
      Gives (AreLocals (map local_of l.locals) now) (locals_declared (body_in l.p l.locals) l.is_static (type_of l.ty) (declarators (map view_declarator (drop l.d-index l.list)))) result (map fact_of l.facts.items) new →
      Gives (AreLocals (map local_of l.initial.locals) now) (locals_declared (body_in l.p l.initial.locals) l.is_static (type_of l.ty) (declarators (map view_declarator l.list))) result (map fact_of l.initial.facts.items) new;
}

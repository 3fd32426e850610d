use Rattle.std.proofs.Common.{◌≡◌, drop, map, List, Result}
use Rattle.stk_ctype.specs.Structs.{structs_of}
use Rattle.stk_tree.specs.View.{view_part, view_section, view_statement, parts, sections, statements}
use Rattle.stk_type_rules.specs.declared.untyped.Untyped.{Untyped}
use Rattle.stk_type_rules.specs.Facts.{AreSoundFacts, Fact, fact_of}
use Rattle.stk_type_rules.specs.Outcome.{Gives}
use Rattle.stk_typing.specs.Locals.{AreSoundLocals, local_of}
use Rattle.stk_statements.specs.declared.labels.Labels.{Labels}
use Rattle.stk_statements.specs.Places.{Begins, body_in}
use Rattle.stk_function_types.specs.Sections.{Labelled}
use Rattle.stk_function_types.specs.Statements.{parts_typed, sections_typed, statements_typed}
use Rattle.stk_statements.specs.Rows.{IsLabelled, Nothing}
use Rattle.stk_statements.proofs.Turns.{Labels_are}
use Rattle.stk_statements.proofs.statements.+statement.Given as goal

-- what completes the rest completes the whole
abbrev pub invariant-statements-loop-x : goal.invariant-statements-loop-x
invariant-statements-loop-x l = record {
  locals : l.locals ≡ l.initial.locals;
  sound : AreSoundFacts (structs_of l.p.file.names.now) (map fact_of l.facts.items);
  rest : (result : Result (Unit {0}) Untyped) (new : List Fact) →
      Gives Nothing (statements_typed (body_in l.p l.initial.locals) (statements (map view_statement (drop l.x-index l.list)))) result (map fact_of l.facts.items) new →
      Gives Nothing (statements_typed (body_in l.p l.initial.locals) (statements (map view_statement l.list))) result (map fact_of l.initial.facts.items) new;
}

abbrev pub invariant-parts-loop-x : goal.invariant-parts-loop-x
invariant-parts-loop-x l = record {
  locals : AreSoundLocals (structs_of l.p.file.names.now) (map local_of l.locals);
  sound : AreSoundFacts (structs_of l.p.file.names.now) (map fact_of l.facts.items);
  begins : Begins l.initial.locals l.locals;
  rest : (result : Result (Unit {0}) Untyped) (new : List Fact) →
      Gives Nothing (parts_typed (body_in l.p l.locals) (parts (map view_part (drop l.x-index l.list)))) result (map fact_of l.facts.items) new →
      Gives Nothing (parts_typed (body_in l.p l.initial.locals) (parts (map view_part l.list))) result (map fact_of l.initial.facts.items) new;
}

abbrev pub invariant-sections-loop-x : goal.invariant-sections-loop-x
invariant-sections-loop-x l = record {
  locals : l.locals ≡ l.initial.locals;
  sound : AreSoundFacts (structs_of l.p.file.names.now) (map fact_of l.facts.items);
  rest : (result : Result (Unit {0}) Untyped) (new : List Fact) (now : Labels) →
      ((m : Labelled) → IsLabelled m l.all → Gives (Labels_are now) (sections_typed (body_in l.p l.initial.locals) l.kind m (sections (map view_section (drop l.x-index l.list)))) result (map fact_of l.facts.items) new) →
      (m : Labelled) → IsLabelled m l.initial.all → Gives (Labels_are now) (sections_typed (body_in l.p l.initial.locals) l.kind m (sections (map view_section l.list))) result (map fact_of l.initial.facts.items) new;
}

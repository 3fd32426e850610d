use Rattle.std.proofs.Common.{drop, map, List, Result}
use Rattle.stk_ctype.specs.Structs.{structs_of}
use Rattle.stk_tree.specs.View.{view_label, labels}
use Rattle.stk_type_rules.specs.declared.untyped.Untyped.{Untyped}
use Rattle.stk_type_rules.specs.Facts.{AreSoundFacts, Fact, fact_of}
use Rattle.stk_type_rules.specs.Outcome.{Gives}
use Rattle.stk_statements.specs.declared.labels.Labels.{Labels}
use Rattle.stk_statements.specs.Places.{body_in}
use Rattle.stk_function_types.specs.Sections.{Labelled, labels_typed}
use Rattle.stk_statements.specs.Rows.{IsLabelled}
use Rattle.stk_statements.proofs.Turns.{Labels_are}
use Rattle.stk_statements.proofs.labels.put_labels.Given as goal

-- what completes the rest completes the whole
abbrev pub invariant-loop-x : goal.invariant-loop-x
invariant-loop-x l = record {
  sound : AreSoundFacts (structs_of l.p.file.names.now) (map fact_of l.facts.items);
  rest : (result : Result (Unit {0}) Untyped) (new : List Fact) (now : Labels) →
      ((m : Labelled) → IsLabelled m l.all → Gives (Labels_are now) (labels_typed (body_in l.p l.locals).scope l.kind m (labels (map view_label (drop l.x-index l.list)))) result (map fact_of l.facts.items) new) →
      (m : Labelled) → IsLabelled m l.initial.all → Gives (Labels_are now) (labels_typed (body_in l.p l.locals).scope l.kind m (labels (map view_label l.list))) result (map fact_of l.initial.facts.items) new;
}

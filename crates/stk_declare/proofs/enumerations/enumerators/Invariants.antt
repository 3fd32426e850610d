use Rattle.std.proofs.Common.{◌≡◌, drop, map, List, Result}
use Rattle.stk_ctype.specs.declared.symbol.NameEntry.{NameEntry}
use Rattle.stk_tree.specs.View.{enumerators, view_enumerator}
use Rattle.stk_type_rules.specs.declared.untyped.Untyped.{Untyped}
use Rattle.stk_declare.specs.declared.enumerations.Counter.{Counter}
use Rattle.stk_declare.specs.Answers.{Answers, Extends}
use Rattle.stk_declare.specs.Enumerations.{enumerators_declared, none_enumerated}
use Rattle.stk_declare.specs.Shown.{enumerated}
use Rattle.stk_declare.proofs.enumerations.enumerators.Given as goal

-- what completes the rest completes the whole
abbrev pub invariant-loop-e : goal.invariant-loop-e
invariant-loop-e l = record {
  extends : Extends l.initial.names l.names;
  rest : (result : Result Counter Untyped) (now : List NameEntry) → Answers (λ x v. enumerated now v ≡ x) (enumerators_declared l.bytes (enumerated l.names l.counter) (enumerators (map view_enumerator (drop l.e-index l.list)))) result →
      Answers (λ x v. enumerated now v ≡ x) (enumerators_declared l.bytes (none_enumerated l.initial.names) (enumerators (map view_enumerator l.list))) result;
}

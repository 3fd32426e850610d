use Rattle.std.proofs.Common.{◌≡◌, drop, map, Result}
use Rattle.stk_ctype.specs.Structs.{structs_of}
use Rattle.stk_ctype.specs.Sound.{IsSound}
use Rattle.stk_ctype.specs.Types.{type_of}
use Rattle.stk_ctype.specs.declared.symbol.NameEntry.{NameEntry}
use Rattle.stk_tree.specs.View.{declarators, view_declarator}
use Rattle.stk_type_rules.specs.declared.untyped.Untyped.{Untyped}
use Rattle.std.proofs.Common.{List}
use Rattle.stk_declare.specs.Answers.{Answers, Extends}
use Rattle.stk_declare.specs.Declaring.{declarators_declared}
use Rattle.stk_declare.proofs.declarators.declarators.Given as goal

-- what completes the rest completes the whole
abbrev pub invariant-loop-d : goal.invariant-loop-d
invariant-loop-d l = record {
  sound : IsSound (structs_of l.names) (type_of l.ty);
  extends : Extends l.initial.names l.names;
  rest : (result : Result (Unit {0}) Untyped) (now : List NameEntry) → Answers (λ es u. now ≡ es) (declarators_declared l.s.bytes.now l.s.mark l.s.word l.names (type_of l.ty) (declarators (map view_declarator (drop l.d-index l.list)))) result →
      Answers (λ es u. now ≡ es) (declarators_declared l.s.bytes.now l.s.mark l.s.word l.initial.names (type_of l.ty) (declarators (map view_declarator l.list))) result;
}

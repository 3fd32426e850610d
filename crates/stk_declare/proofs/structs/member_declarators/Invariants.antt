use Rattle.std.proofs.Common.{◌≡◌, drop, length, map, List, Result}
use Rattle.stk_ctype.specs.Structs.{structs_of}
use Rattle.stk_ctype.specs.Sound.{IsSound}
use Rattle.stk_ctype.specs.Types.{type_of}
use Rattle.stk_ctype.specs.declared.symbol.MemberInfo.{MemberInfo}
use Rattle.stk_ctype.specs.declared.symbol.NameEntry.{NameEntry}
use Rattle.stk_tree.specs.View.{declarators, view_declarator}
use Rattle.stk_type_rules.specs.declared.untyped.Untyped.{Untyped}
use Rattle.stk_declare.specs.Answers.{Answers, Extends}
use Rattle.stk_declare.specs.Shown.{membered}
use Rattle.stk_declare.specs.Structs.{member_declarators}
use Rattle.stk_declare.proofs.Rows.{AreSoFar}
use Rattle.stk_declare.proofs.structs.member_declarators.Given as goal

-- what completes the rest completes the whole
abbrev pub invariant-loop-d : goal.invariant-loop-d
invariant-loop-d l = record {
  sound : IsSound (structs_of l.names) (type_of l.ty);
  left : l.left ≡ length (drop l.d-index l.list);
  extends : Extends l.initial.names l.names;
  members : AreSoFar l.last (structs_of l.names) l.found (drop l.d-index l.list);
  rest : (result : Result (Unit {0}) Untyped) (now : List NameEntry) (ms : List MemberInfo) → Answers (λ x u. membered now ms ≡ x) (member_declarators l.bytes l.names l.found l.last (type_of l.ty) (declarators (map view_declarator (drop l.d-index l.list)))) result →
      Answers (λ x u. membered now ms ≡ x) (member_declarators l.bytes l.initial.names l.initial.found l.last (type_of l.ty) (declarators (map view_declarator l.list))) result;
}

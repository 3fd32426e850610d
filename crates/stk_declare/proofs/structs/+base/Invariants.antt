use Rattle.std.proofs.Common.{◌≡◌, drop, length, map, List, Result, true}
use Rattle.stk_ctype.specs.Structs.{structs_of}
use Rattle.stk_ctype.specs.declared.symbol.MemberInfo.{MemberInfo}
use Rattle.stk_ctype.specs.declared.symbol.NameEntry.{NameEntry}
use Rattle.stk_tree.specs.View.{members as member_row, view_member}
use Rattle.stk_type_rules.specs.declared.untyped.Untyped.{Untyped}
use Rattle.stk_declare.specs.Answers.{Answers, Extends}
use Rattle.stk_declare.specs.Shown.{membered}
use Rattle.stk_declare.specs.Structs.{members_declared}
use Rattle.stk_declare.proofs.Rows.{AreSoFar}
use Rattle.stk_declare.proofs.structs.+base.Given as goal

-- what completes the rest completes the whole
abbrev pub invariant-members-loop-m : goal.invariant-members-loop-m
invariant-members-loop-m l = record {
  left : l.left ≡ length (drop l.m-index l.list);
  extends : Extends l.initial.names l.names;
  members : AreSoFar true (structs_of l.names) l.found (drop l.m-index l.list);
  rest : (result : Result (Unit {0}) Untyped) (now : List NameEntry) (ms : List MemberInfo) → Answers (λ x u. membered now ms ≡ x) (members_declared l.bytes l.names l.found (member_row (map view_member (drop l.m-index l.list)))) result →
      Answers (λ x u. membered now ms ≡ x) (members_declared l.bytes l.initial.names l.initial.found (member_row (map view_member l.list))) result;
}

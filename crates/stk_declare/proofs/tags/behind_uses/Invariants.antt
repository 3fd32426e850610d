use Rattle.std.proofs.Common.{◌≡◌, drop}
use Rattle.stk_declare.specs.Answers.{Extends}
use Rattle.stk_declare.specs.Tags.{behind_uses}
use Rattle.stk_declare.proofs.tags.behind_uses.Given as goal

abbrev pub invariant-loop-tag : goal.invariant-loop-tag
invariant-loop-tag l = record {
  is : behind_uses l.bytes l.names (drop l.tag-index l.uses) ≡ behind_uses l.bytes l.initial.names l.uses;
  extends : Extends l.initial.names l.names;
}

use Rattle.std.proofs.Common.{◌≡◌, drop, Some}
use Rattle.stk_typing.specs.Specifiers.{specified_behind, unsaid}
use Rattle.stk_typing.proofs.specifiers.specified.Given as goal

abbrev pub invariant-loop-word : goal.invariant-loop-word
invariant-loop-word l = specified_behind l.all (drop l.word-index l.words) ≡ specified_behind (Some unsaid) l.words

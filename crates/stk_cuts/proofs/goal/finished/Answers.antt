use Rattle.std.proofs.Common.{◌<◌, length, ◌∙◌, sym, subst}
use Rattle.stk_terms.specs.Terms.{Stored}
use Rattle.stk_rewrite.proofs.Normals.{all_normal}
use Rattle.stk_cuts.proofs.Copied as on
use Rattle.stk_cuts.proofs.goal.finished.Goals as goal

pub has_room-requires : goal.has_room-requires
has_room-requires c = subst (λ (s : Stored). c.in-Some.term.0 < length s.terms) (sym c.terms-2.ensures.same) (c.in-Some.ensures c.args.of.now.terms.now c.args.terms c.args.of.now.cut.now c.requires.copies).exists_

pub returns-then-branch-clause-exists : goal.returns-then-branch-clause-exists
returns-then-branch-clause-exists c = (c.in-Some.ensures c.args.of.now.terms.now c.args.terms c.args.of.now.cut.now c.requires.copies).exists_

pub returns-then-branch-clause-one : goal.returns-then-branch-clause-one
returns-then-branch-clause-one c = (c.in-Some.ensures c.args.of.now.terms.now c.args.terms c.args.of.now.cut.now c.requires.copies).wide ∙ c.requires.one

pub returns-then-branch-clause-normal : goal.returns-then-branch-clause-normal
returns-then-branch-clause-normal c = all_normal c.args.terms c.count-same.ensures.sound c.count-same.ensures.normal c.in-Some.term.0 (c.in-Some.ensures c.args.of.now.terms.now c.args.terms c.args.of.now.cut.now c.requires.copies).exists_

pub returns-then-branch-clause-never : goal.returns-then-branch-clause-never
returns-then-branch-clause-never c = on.never_kept c.args.of.now.terms.now c.args.of.now.cut.now c.count-count.ensures.sound c.args.terms c.requires.inputs c.args.goal.0 c.in-Some.term.0 (c.in-Some.ensures c.args.of.now.terms.now c.args.terms c.args.of.now.cut.now c.requires.copies)

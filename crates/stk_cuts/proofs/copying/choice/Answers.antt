use Rattle.stk_cuts.proofs.Copied as on
use Rattle.stk_cuts.proofs.copying.choice.Goals as goal

pub choice-requires-clause-test : goal.choice-requires-clause-test
choice-requires-clause-test c = (c.in-Some.ensures c.args.out.now c.args.of.now.cut.now c.requires.copies).exists_

pub choice-requires-clause-first : goal.choice-requires-clause-first
choice-requires-clause-first c = (c.in-Some-argument.ensures c.args.out.now c.args.of.now.cut.now c.requires.copies).exists_

pub choice-requires-clause-second : goal.choice-requires-clause-second
choice-requires-clause-second c = (c.in-Some-argument-2.ensures c.args.out.now c.args.of.now.cut.now c.requires.copies).exists_

pub choice-requires-clause-one : goal.choice-requires-clause-one
choice-requires-clause-one c = on.one_at c.args.of.now.terms.now c.args.of.now.cut.now c.count-count.ensures.sound c.args.out.now c.requires.inputs c.args.id.0 c.requires.exists c.requires.three c.in-Some.test c.in-Some-argument.a c.in-Some-argument-2.b (c.in-Some.ensures c.args.out.now c.args.of.now.cut.now c.requires.copies) (c.in-Some-argument.ensures c.args.out.now c.args.of.now.cut.now c.requires.copies) (c.in-Some-argument-2.ensures c.args.out.now c.args.of.now.cut.now c.requires.copies)

pub choice-requires-clause-alike : goal.choice-requires-clause-alike
choice-requires-clause-alike c = on.alike_at c.args.of.now.terms.now c.args.of.now.cut.now c.count-count.ensures.sound c.args.out.now c.requires.inputs c.args.id.0 c.requires.exists c.requires.three c.in-Some.test c.in-Some-argument.a c.in-Some-argument-2.b (c.in-Some.ensures c.args.out.now c.args.of.now.cut.now c.requires.copies) (c.in-Some-argument.ensures c.args.out.now c.args.of.now.cut.now c.requires.copies) (c.in-Some-argument-2.ensures c.args.out.now c.args.of.now.cut.now c.requires.copies)

pub returns-clause-copies : goal.returns-clause-copies
returns-clause-copies c = on.copy_chosen c.args.of.now.terms.now c.args.of.now.cut.now c.count-count.ensures.sound c.args.out.now c.requires.inputs c.args.id.0 c.requires.exists c.requires.three c.in-Some.test c.in-Some-argument.a c.in-Some-argument-2.b (c.in-Some.ensures c.args.out.now c.args.of.now.cut.now c.requires.copies) (c.in-Some-argument.ensures c.args.out.now c.args.of.now.cut.now c.requires.copies) (c.in-Some-argument-2.ensures c.args.out.now c.args.of.now.cut.now c.requires.copies) c.choice.new.self c.in_ok-v.v.0 c.in_ok-v.ensures.built

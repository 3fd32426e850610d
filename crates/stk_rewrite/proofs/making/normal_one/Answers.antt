use Rattle.stk_rewrite.specs.declared.right.Right.TheVariants.{One}
use Rattle.stk_rewrite.proofs.Normals.{all_normal}
use Rattle.stk_rewrite.proofs.Leaves.{built_for}
use Rattle.stk_rewrite.proofs.making.normal_one.Goals as goal

pub one-right-requires-clause-normal : goal.one-right-requires-clause-normal
one-right-requires-clause-normal c = all_normal c.args.terms.now c.count-count.ensures.sound c.requires.normal c.args.a.0 c.requires.exists

pub returns-clause-built : goal.returns-clause-built
returns-clause-built c = built_for c.args.terms.now c.build.new.terms (One c.args.op c.args.a) c.one-right.result c.in_ok-v.v.0 c.one-right.ensures c.in_ok-v.ensures.built

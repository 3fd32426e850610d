use Rattle.stk_rewrite.specs.declared.right.Right.TheVariants.{Two}
use Rattle.stk_rewrite.proofs.Normals.{all_normal}
use Rattle.stk_rewrite.proofs.Leaves.{built_for}
use Rattle.stk_rewrite.proofs.making.normal_two.Goals as goal

pub pair-right-requires-clause-first : goal.pair-right-requires-clause-first
pair-right-requires-clause-first c = all_normal c.args.terms.now c.count-count.ensures.sound c.requires.normal c.args.a.0 c.requires.first

pub pair-right-requires-clause-second : goal.pair-right-requires-clause-second
pair-right-requires-clause-second c = all_normal c.args.terms.now c.count-count.ensures.sound c.requires.normal c.args.b.0 c.requires.second

pub returns-clause-built : goal.returns-clause-built
returns-clause-built c = built_for c.args.terms.now c.build.new.terms (Two c.args.op c.args.a c.args.b) c.pair-right.result c.in_ok-v.v.0 c.pair-right.ensures c.in_ok-v.ensures.built

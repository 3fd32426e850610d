use Rattle.stk_rewrite.specs.declared.right.Right.TheVariants.{Chosen}
use Rattle.stk_rewrite.proofs.Normals.{all_normal}
use Rattle.stk_rewrite.proofs.Leaves.{built_for}
use Rattle.stk_rewrite.proofs.making.normal_choice.Goals as goal

pub choice-right-requires-clause-test : goal.choice-right-requires-clause-test
choice-right-requires-clause-test c = all_normal c.args.terms.now c.count-count.ensures.sound c.requires.normal c.args.test.0 c.requires.test

pub choice-right-requires-clause-pair : goal.choice-right-requires-clause-pair
choice-right-requires-clause-pair c =
    let of = all_normal c.args.terms.now c.count-count.ensures.sound c.requires.normal in
    record { first = of c.args.a.0 c.requires.first; second = of c.args.b.0 c.requires.second; alike = c.requires.alike }

pub returns-clause-built : goal.returns-clause-built
returns-clause-built c = built_for c.args.terms.now c.build.new.terms (Chosen c.args.test c.args.a c.args.b) c.choice-right.result c.in_ok-v.v.0 c.choice-right.ensures c.in_ok-v.ensures.built

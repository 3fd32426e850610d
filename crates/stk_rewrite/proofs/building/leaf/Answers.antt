use Rattle.stk_rewrite.proofs.Built.{leaf_built}
use Rattle.stk_rewrite.proofs.building.leaf.Goals as goal

pub returns : goal.returns
returns c = leaf_built c.args.terms.now c.requires.sound c.args.a c.requires.can

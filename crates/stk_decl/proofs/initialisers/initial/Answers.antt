use Rattle.stk_tree.specs.View.{view_initialiser}
use Rattle.stk_ctype.specs.Named.{named}
use Rattle.stk_decl.proofs.Low.{initialiser_low}
use Rattle.stk_decl.proofs.initialisers.initial.Goals as goal

pub returns-clause-low : goal.returns-clause-low
returns-clause-low c =
    initialiser_low (named c.args.bytes.now c.args.names.now) c.args.room c.in-Some.next.now (view_initialiser c.in_ok-init.init, c.in_ok-init.rest.now) c.in_ok-init.ensures

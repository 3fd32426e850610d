use Rattle.stk_tree.specs.View.{view_declaration}
use Rattle.stk_ctype.specs.Named.{named}
use Rattle.stk_stmt.proofs.Declared.{gives_front}
use Rattle.stk_stmt.proofs.declarations.front.Goals as goal

pub returns : goal.returns
returns c =
    let e = c.front_within.ensures in
    gives_front (λ x. view_declaration x.tree) (λ x. x.rest.now) (named c.args.bytes.now c.args.names.now) c.args.room c.args.lexemes.now c.front_within.result e.found e.unlaid e.none

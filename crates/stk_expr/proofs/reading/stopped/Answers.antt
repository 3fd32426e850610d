use Rattle.stk_ctype.specs.Named.{named}
use Rattle.stk_expr.proofs.StoppedReading.{gives_stopped}
use Rattle.stk_expr.proofs.reading.stopped.Goals as goal

pub returns-clause-value : goal.returns-clause-value
returns-clause-value c =
    gives_stopped (named c.args.bytes.now c.args.names.now) c.args.room c.args.level c.args.lexemes.now c.expression.result c.requires.level.1 c.expression.ensures.found c.expression.ensures.unlaid c.expression.ensures.none
